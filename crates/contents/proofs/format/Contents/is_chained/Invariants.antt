-- `contents::format::Contents::is_chained` meets its contract: what is left to decide decides the whole. Assumes nothing.
use Prim.Native.Nat.{◌≤◌, ◌+◌, ◌*◌, ◌-◌, ◌^◌}
use mathlib.Core.Path.{◌≡◌}
use lib.ListN.{length, drop}
use Rattle.contents.specs.Format.{most, entries, chained, contents_end}
use Rattle.contents.proofs.format.Contents.is_chained.Given as goal

abbrev pub invariant-loop-i : goal.invariant-loop-i
invariant-loop-i l =
    (l.end ≤ contents_end most + 2 ^ 32 * l.i)
    × (chained (length l.self.file.now) 0 (contents_end l.self.count) (entries l.self.count (drop 8 l.self.file.now))
    ≡ chained (length l.self.file.now) l.least l.end (entries (l.self.count - l.i) (drop (contents_end l.i) l.self.file.now)))
