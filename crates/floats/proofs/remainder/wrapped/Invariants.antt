-- `floats::remainder::wrapped` meets its contract: what is left of the shift is still to be made. Assumes nothing.
use mathlib.Core.Path.{◌≡◌}
use Prim.Native.Nat.{◌*◌, ◌%◌, ◌^◌, ◌<◌}
use Rattle.floats.proofs.remainder.wrapped.Given as goal

abbrev pub invariant-loop-left : goal.invariant-loop-left
invariant-loop-left l = (l.r < l.by) × (l.r * 2 ^ l.left % l.by ≡ l.sig * 2 ^ l.shift % l.by)

abbrev pub decreases-loop-left : goal.decreases-loop-left
decreases-loop-left l = l.left
