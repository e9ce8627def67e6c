-- `contents::format::Contents::find` meets its contract: what is found in what is left is found in all. Assumes nothing.
use Prim.Native.Nat.{◌-◌}
use mathlib.Core.Path.{◌≡◌}
use lib.ListN.{drop}
use Rattle.contents.specs.Format.{entries, contents_end}
use Rattle.contents.specs.Find.{sought}
use Rattle.contents.proofs.format.Contents.find.Given as goal

abbrev pub invariant-loop-i : goal.invariant-loop-i
invariant-loop-i l = sought l.satellite (entries l.self.count (drop 8 l.self.file.now)) ≡ sought l.satellite (entries (l.self.count - l.i) (drop (contents_end l.i) l.self.file.now))
