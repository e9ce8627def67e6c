-- `contents::find::satellite_at` meets its contract. Assumes nothing.
use borrow.Author.Tests.{lt-ltb}
use lib.ListN.{drop}
use lib.Seq.{drop-drop}
use Rattle.contents.specs.Find.{listed_in}
use Rattle.contents.proofs.find.Laws.{satellite-of}
use Rattle.contents.proofs.find.satellite_at.Goals as goal

pub returns : goal.returns
unfolding listed_in
returns c =
    let a = c.args in
    let s = a.file.now in
    let k = c.in_ok-contents.ensures in
    let h = satellite-of s a.i c.in_ok-contents.contents.count (drop 8 s) c.if-contents-i.false in
    simp (k.right, ← k.count, lt-ltb _ _ c.if-contents-i.false, h, c.entry.ensures, k.file, drop-drop)
