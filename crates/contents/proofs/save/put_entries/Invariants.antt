-- `contents::save::put_entries` meets its contract: what is left to write, laid over what was written, is the whole. Assumes nothing.
use Prim.Native.Nat.{◌≤◌, ◌+◌, ◌*◌, ◌-◌, ◌^◌}
use mathlib.Core.Path.{◌≡◌}
use lib.ListN.{length, drop}
use Rattle.contents.specs.Laid.{laid}
use Rattle.contents.specs.Format.{entries, contents_end}
use Rattle.contents.specs.Table.{table, end_of}
use Rattle.contents.proofs.save.put_entries.Given as goal

abbrev pub invariant-loop-i : goal.invariant-loop-i
invariant-loop-i l =
    (length l.out ≡ length l.initial.out)
    × (l.body ≤ l.start + 2 ^ 32 * l.i)
    × (end_of l.start (entries l.n (drop (contents_end l.from) l.contents.file.now)) ≡ end_of l.body (entries (l.n - l.i) (drop (contents_end (l.from + l.i)) l.contents.file.now)))
    × (laid (contents_end l.to) (table l.start (entries l.n (drop (contents_end l.from) l.contents.file.now))) l.initial.out
    ≡ laid (contents_end (l.to + l.i)) (table l.body (entries (l.n - l.i) (drop (contents_end (l.from + l.i)) l.contents.file.now))) l.out)
