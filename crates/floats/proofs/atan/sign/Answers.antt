-- `floats::atan::sign` meets its contract: each arm is that of the test. Assumes nothing.
use lib.Ieee.{of_bits, round}
use Rattle.floats.specs.Rounded.{dec}
use Rattle.floats.specs.Atan.{sign}
use Rattle.floats.proofs.atan.sign.Goals as goal

pub returns-then-below : goal.returns-then-below
unfolding sign dec of_bits round
returns-then-below c = simp c.if-below.true

pub returns-else-below : goal.returns-else-below
unfolding sign dec of_bits round
returns-else-below c = simp c.if-below.false
