-- `elements::elements::low` meets its contract: the calls give what the definition names. Assumes nothing.
use mathlib.Core.Path.{sym}
use lib.Ieee.{of_bits, round}
use Rattle.floats.specs.Rounded.{dec}
use Rattle.orbit.specs.Model.{tau}
use Rattle.elements.specs.Elements.{low}
use Rattle.elements.proofs.elements.low.Goals as goal

pub returns-in_err-node : goal.returns-in_err-node
unfolding low
returns-in_err-node c = simp (c.from_residual.ensures, sym c.sin_cos.ensures, c.in_err-node.was)

pub returns : goal.returns
unfolding low tau dec of_bits round
returns c =
    simp (c.tilt.ensures, c.p4.ensures, sym c.sin_cos.ensures, c.in_ok-node.was, c.rem-turn.ensures, c.p30.ensures, c.near_turn-right_ascension.ensures, c.low_node-last.ensures)
