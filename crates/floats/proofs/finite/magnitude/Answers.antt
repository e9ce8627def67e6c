-- `floats::finite::magnitude` meets its contract: each arm is that of the test. Assumes nothing.
use lib.Ieee.{of_bits, round}
use Rattle.floats.specs.Rounded.{dec}
use Rattle.floats.proofs.finite.magnitude.Goals as goal

pub returns-then-x : goal.returns-then-x
unfolding dec of_bits round
returns-then-x c = simp c.if-x.true

pub returns-else-x : goal.returns-else-x
unfolding dec of_bits round
returns-else-x c = simp c.if-x.false
