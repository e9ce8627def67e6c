-- `contents::format::Contents::place` meets its contract: the place among what is left is the place among all. Assumes nothing.
use Prim.Native.Nat.{◌≤◌, ◌+◌, ◌*◌, ◌-◌, ◌^◌}
use mathlib.Core.Path.{◌≡◌}
use lib.ListN.{drop}
use Rattle.contents.specs.Format.{most, entries, contents_end}
use Rattle.contents.specs.Table.{place_of}
use Rattle.contents.proofs.format.Contents.place.Given as goal

abbrev pub invariant-loop-below : goal.invariant-loop-below
invariant-loop-below l =
    (l.cut ≤ contents_end most + 2 ^ 32 * l.below)
    × (place_of l.satellite 0 (contents_end l.self.count) (entries l.self.count (drop 8 l.self.file.now))
    ≡ place_of l.satellite l.below l.cut (entries (l.self.count - l.below) (drop (contents_end l.below) l.self.file.now)))
