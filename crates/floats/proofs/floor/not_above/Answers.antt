-- `floats::floor::not_above` meets its contract: each arm is that of the test. Assumes nothing.
use lib.Ieee.{of_bits, round}
use Rattle.floats.specs.Rounded.{dec}
use Rattle.floats.proofs.floor.not_above.Goals as goal

pub returns-then-x-t : goal.returns-then-x-t
unfolding dec of_bits round
returns-then-x-t c = simp c.if-x-t.true

pub returns-else-x-t : goal.returns-else-x-t
unfolding dec of_bits round
returns-else-x-t c = simp c.if-x-t.false
