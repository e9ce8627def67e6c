-- `contents::format::Contents::entry` meets its contract. Assumes nothing.
use lib.Seq.{drop-drop}
use Rattle.contents.proofs.format.Contents.entry.Goals as goal

pub returns : goal.returns
returns c = simp (c.u32_at.ensures, c.u32_at-2.ensures, c.u32_at-3.ensures, drop-drop)
