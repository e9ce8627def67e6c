-- `constants::geometry::solar` meets its contract: the calls give what the definition names. Assumes nothing.
use lib.Ieee.{of_bits, round}
use Rattle.floats.specs.Rounded.{dec}
use Rattle.constants.specs.Geometry.{sun}
use Rattle.constants.proofs.geometry.solar.Goals as goal

pub returns : goal.returns
unfolding sun dec of_bits round
returns c = simp c.solar_mean_anomaly_0.ensures
