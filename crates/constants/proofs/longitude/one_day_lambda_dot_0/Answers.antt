-- `constants::longitude::one_day_lambda_dot_0` meets its contract: its text is the definition's, with each constant by its value. Assumes nothing.
use mathlib.Core.Path.{refl}
use lib.Ieee.{of_bits, round}
use Rattle.floats.specs.Rounded.{dec}
use Rattle.constants.specs.Longitude.{sidereal_speed, one_day_lambda_dot_0}
use Rattle.constants.proofs.longitude.one_day_lambda_dot_0.Goals as goal

pub returns : goal.returns
unfolding one_day_lambda_dot_0 sidereal_speed dec of_bits round
returns c = refl
