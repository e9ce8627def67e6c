-- `elements::elements::low_node` meets its contract: each arm is that of the flag. Assumes nothing.
use lib.Ieee.{of_bits, round}
use Rattle.floats.specs.Rounded.{dec}
use Rattle.orbit.specs.Model.{tau}
use Rattle.elements.specs.Elements.{low_node}
use Rattle.elements.proofs.elements.low_node.Goals as goal

pub returns-then-afspc_compatibility_mode : goal.returns-then-afspc_compatibility_mode
unfolding low_node tau dec of_bits round
returns-then-afspc_compatibility_mode c =
    simp (c.if-afspc_compatibility_mode.true, c.rem_euclid.ensures)

pub returns : goal.returns
unfolding low_node tau dec of_bits round
returns c = simp (c.if-afspc_compatibility_mode.false, c.rem.ensures)
