-- `constants::geometry::lunar_mean_anomaly_0` meets its contract: its text is the definition's, with each constant by its value. Assumes nothing.
use lib.Ieee.{of_bits, round}
use Rattle.floats.specs.Rounded.{dec}
use Rattle.orbit.specs.Model.{tau}
use Rattle.constants.specs.Geometry.{lunar_mean_anomaly}
use Rattle.constants.proofs.geometry.lunar_mean_anomaly_0.Goals as goal

pub returns : goal.returns
unfolding lunar_mean_anomaly tau dec of_bits round
returns c = c.rem.ensures
