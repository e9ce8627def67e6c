-- `elements::elements::near_turn` meets its contract: each answer is the case that the two tests pick. Assumes nothing.
use lib.Ieee.{of_bits, round}
use Rattle.floats.specs.Rounded.{dec}
use Rattle.orbit.specs.Model.{pi, tau}
use Rattle.elements.specs.Elements.{near_turn}
use Rattle.elements.proofs.elements.near_turn.Goals as goal

pub returns-then-p30-turn : goal.returns-then-p30-turn
unfolding near_turn pi tau dec of_bits round
returns-then-p30-turn c = simp c.if-p30-turn.true

pub returns-then-p30-turn-2 : goal.returns-then-p30-turn-2
unfolding near_turn pi tau dec of_bits round
returns-then-p30-turn-2 c =
    simp (c.if-p30-turn.false, c.if-p30-turn-2.true)

pub returns : goal.returns
unfolding near_turn pi tau dec of_bits round
returns c =
    simp (c.if-p30-turn.false, c.if-p30-turn-2.false)
