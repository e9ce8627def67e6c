-- `constants::longitude::one_day_lambda_0` meets its contract: its text is the definition's, with each constant by its value. Assumes nothing.
use lib.Ieee.{of_bits, round}
use Rattle.floats.specs.Rounded.{dec}
use Rattle.orbit.specs.Model.{tau}
use Rattle.constants.specs.Longitude.{one_day_lambda_0}
use Rattle.constants.proofs.longitude.one_day_lambda_0.Goals as goal

pub returns : goal.returns
unfolding one_day_lambda_0 tau dec of_bits round
returns c = c.rem.ensures
