-- `floats::trig::quarters` meets its contract: the calls give what the definition names. Assumes nothing.
use lib.Ieee.{of_bits, round}
use Rattle.floats.specs.Rounded.{dec}
use Rattle.floats.specs.Trig.{quarters}
use Rattle.floats.proofs.trig.quarters.Goals as goal

pub returns : goal.returns
unfolding quarters dec of_bits round
returns c = c.nearby.ensures
