-- `coefficients::eccentricity::below_70` meets its contract: its text is the definition's, with the constant by its value. Assumes nothing.
use mathlib.Core.Path.{refl}
use lib.Ieee.{of_bits, round}
use Rattle.floats.specs.Rounded.{dec}
use Rattle.coefficients.specs.Eccentricity.{below70}
use Rattle.coefficients.proofs.eccentricity.below_70.Goals as goal

pub returns : goal.returns
unfolding below70 dec of_bits round
returns c = refl
