-- `elements::elements::divisor` meets its contract: each arm is that of the test. Assumes nothing.
use mathlib.Core.Path.{sym}
use lib.Ieee.{of_bits, round}
use Rattle.floats.specs.Rounded.{dec}
use Rattle.elements.specs.Elements.{divisor}
use Rattle.elements.proofs.elements.divisor.Goals as goal

pub returns-then-magnitude : goal.returns-then-magnitude
unfolding divisor dec of_bits round
returns-then-magnitude c =
    simp (sym c.magnitude.ensures, c.if-magnitude.true)

pub returns : goal.returns
unfolding divisor dec of_bits round
returns c =
    simp (sym c.magnitude.ensures, c.if-magnitude.false)
