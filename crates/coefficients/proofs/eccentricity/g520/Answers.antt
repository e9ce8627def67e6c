-- `coefficients::eccentricity::g520` meets its contract: each answer is the polynomial that the test picks. Assumes nothing.
use mathlib.Core.Path.{sym}
use lib.Ieee.{of_bits, round}
use Rattle.floats.specs.Rounded.{dec}
use Rattle.coefficients.specs.Eccentricity.{g520}
use Rattle.coefficients.proofs.eccentricity.g520.Goals as goal

pub returns-then-up_to_65 : goal.returns-then-up_to_65
unfolding g520 dec of_bits round
returns-then-up_to_65 c = simp (sym c.up_to_65.ensures, c.if-up_to_65.true, c.cubic.ensures)

pub returns-then-e : goal.returns-then-e
unfolding g520 dec of_bits round
returns-then-e c = simp (sym c.up_to_65.ensures, c.if-up_to_65.false, c.if-e.true, c.quadratic.ensures)

pub returns-else-e : goal.returns-else-e
unfolding g520 dec of_bits round
returns-else-e c = simp (sym c.up_to_65.ensures, c.if-up_to_65.false, c.if-e.false, c.cubic-else-e.ensures)
