-- `elements::elements::plane_at` meets its contract: each arm is that of the test. Assumes nothing.
use lib.Ieee.{of_bits, round}
use Rattle.floats.specs.Rounded.{dec}
use Rattle.elements.specs.Elements.{plane_of}
use Rattle.elements.proofs.elements.plane_at.Goals as goal

pub returns-then-inclination : goal.returns-then-inclination
unfolding plane_of dec of_bits round
returns-then-inclination c =
    simp (c.if-inclination.true, c.high.ensures)

pub returns : goal.returns
unfolding plane_of dec of_bits round
returns c =
    simp (c.if-inclination.false, c.low.ensures)
