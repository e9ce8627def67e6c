-- `elements::elements::power` meets its contract: each arm is that of the test. Assumes nothing.
use lib.Ieee.{of_bits, round}
use Rattle.floats.specs.Rounded.{dec}
use Rattle.elements.specs.Elements.{power_of}
use Rattle.elements.proofs.elements.power.Goals as goal

pub returns-then-a : goal.returns-then-a
unfolding power_of dec of_bits round
returns-then-a c =
    simp (c.if-a.true, c.three_halves.ensures)

pub returns : goal.returns
unfolding power_of dec of_bits round
returns c = simp c.if-a.false
