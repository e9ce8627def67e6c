-- `floats::trig::swing` meets its contract: the calls give what the definition names. Assumes nothing.
use lib.Ieee.{of_bits, round}
use Rattle.floats.specs.Rounded.{dec}
use Rattle.floats.specs.Trig.{swing}
use Rattle.floats.proofs.trig.swing.Goals as goal

pub returns : goal.returns
unfolding swing dec of_bits round
returns c = simp c.nearby-h.ensures
