-- `times::time::is_same_way` meets its contract: a zero by the comparison, the sign bits by their function. Assumes nothing.
use mathlib.Core.Path.{ap₂}
use mathlib.Core.Bool.{Bool, beq, ◌||◌}
use lib.Ieee.{of_bits}
use Rattle.floats.proofs.Exact.{is-zero}
use Rattle.times.proofs.time.is_same_way.Goals as goal

pub returns : goal.returns
unfolding of_bits
returns c =
    ap₂ (λ (a b : Bool). a || b) (is-zero c.args.s) (ap₂ (λ (a b : Bool). beq a b) c.is_negative.ensures c.is_negative-2.ensures)
