-- `replay::word::value` has room for each digit. Assumes nothing.
use Rattle.std.proofs.Common.{arith}
use Rattle.replay.proofs.Bounds.{has_room}
use Rattle.replay.proofs.word.value.Goals as goal

pub overflow_mul-value : goal.overflow_mul-value
overflow_mul-value c =
    omega (arith, has_room c.loop-b.value c.loop-b.b-index (omega arith) (omega arith))

pub overflow_add-value : goal.overflow_add-value
overflow_add-value c =
    omega (arith, has_room c.loop-b.value c.loop-b.b-index (omega arith) (omega arith), c.in_ok-value.ensures)
