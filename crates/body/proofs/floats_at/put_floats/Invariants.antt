-- `body::floats_at::put_floats` meets its contract: what is left to write gives the whole. Assumes nothing.
use Prim.Native.Nat.{◌+◌, ◌*◌}
use mathlib.Core.Path.{◌≡◌}
use lib.ListN.{length, drop}
use Rattle.contents.specs.Laid.{laid}
use Rattle.body.specs.Floats.{float_bytes}
use Rattle.body.proofs.floats_at.put_floats.Given as goal

abbrev pub invariant-loop-i : goal.invariant-loop-i
invariant-loop-i l =
    (length l.out ≡ length l.initial.out)
    × (laid l.at (float_bytes l.xs) l.initial.out ≡ laid (l.at + 8 * l.i) (float_bytes (drop l.i l.xs)) l.out)
