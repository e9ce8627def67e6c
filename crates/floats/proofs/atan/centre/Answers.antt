-- `floats::atan::centre` meets its contract: each arm is that of the test. Assumes nothing.
use lib.Ieee.{of_bits, round}
use Rattle.floats.specs.Rounded.{dec}
use Rattle.floats.specs.Atan.{centre}
use Rattle.floats.proofs.atan.centre.Goals as goal

pub returns-then-t : goal.returns-then-t
unfolding centre dec of_bits round
returns-then-t c = simp c.if-t.true

pub returns-else-t : goal.returns-else-t
unfolding centre dec of_bits round
returns-else-t c = simp c.if-t.false
