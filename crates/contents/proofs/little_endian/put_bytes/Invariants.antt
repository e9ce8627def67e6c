-- `contents::little_endian::put_bytes` meets its contract: the loop is the library's copy. Assumes nothing.
use mathlib.Core.Path.{◌≡◌}
use lib.ListN.{length}
use lib.Seq.{paste}
use Rattle.contents.proofs.little_endian.put_bytes.Given as goal

abbrev pub invariant-loop-i : goal.invariant-loop-i
invariant-loop-i l = (length l.out ≡ length l.initial.out) × (l.out ≡ paste l.initial.out l.at l.src l.i)
