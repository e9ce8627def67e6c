-- `coefficients::eccentricity::up_to_65` meets its contract: its text is the definition's, with the constant by its value. Assumes nothing.
use mathlib.Core.Path.{refl}
use lib.Ieee.{of_bits, round}
use Rattle.floats.specs.Rounded.{dec}
use Rattle.coefficients.specs.Eccentricity.{up_to65}
use Rattle.coefficients.proofs.eccentricity.up_to_65.Goals as goal

pub returns : goal.returns
unfolding up_to65 dec of_bits round
returns c = refl
