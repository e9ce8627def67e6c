-- `times::time::delta_t` meets its contract. Assumes nothing.
use lib.Ieee.{of_bits, round, neg}
use Rattle.floats.specs.Rounded.{dec}
use Rattle.times.specs.Time.{delta}
use Rattle.times.proofs.time.delta_t.Goals as goal

pub returns-then-back : goal.returns-then-back
unfolding delta dec of_bits round neg
returns-then-back c = simp c.if-back.true

pub returns-else-back : goal.returns-else-back
unfolding delta dec of_bits round neg
returns-else-back c = simp c.if-back.false
