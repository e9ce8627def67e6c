-- `coefficients::eccentricity::g532` meets its contract: each answer is the polynomial that the test picks. Assumes nothing.
use mathlib.Core.Path.{sym}
use lib.Ieee.{of_bits, round}
use Rattle.floats.specs.Rounded.{dec}
use Rattle.coefficients.specs.Eccentricity.{g532}
use Rattle.coefficients.proofs.eccentricity.g532.Goals as goal

pub returns-then-below_70 : goal.returns-then-below_70
unfolding g532 dec of_bits round
returns-then-below_70 c = simp (sym c.below_70.ensures, c.if-below_70.true, c.cubic.ensures)

pub returns-else-below_70 : goal.returns-else-below_70
unfolding g532 dec of_bits round
returns-else-below_70 c = simp (sym c.below_70.ensures, c.if-below_70.false, c.cubic-else-below_70.ensures)
