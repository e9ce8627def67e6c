-- `coefficients::eccentricity::g310` meets its contract: each answer is the polynomial that the test picks. Assumes nothing.
use mathlib.Core.Path.{sym}
use lib.Ieee.{of_bits, round}
use Rattle.floats.specs.Rounded.{dec}
use Rattle.coefficients.specs.Eccentricity.{g310}
use Rattle.coefficients.proofs.eccentricity.g310.Goals as goal

pub returns-then-up_to_65 : goal.returns-then-up_to_65
unfolding g310 dec of_bits round
returns-then-up_to_65 c = simp (sym c.up_to_65.ensures, c.if-up_to_65.true, c.cubic.ensures)

pub returns-else-up_to_65 : goal.returns-else-up_to_65
unfolding g310 dec of_bits round
returns-else-up_to_65 c = simp (sym c.up_to_65.ensures, c.if-up_to_65.false, c.cubic-else-up_to_65.ensures)
