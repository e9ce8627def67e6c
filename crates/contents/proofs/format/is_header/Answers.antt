-- `contents::format::is_header` meets its contract. Assumes nothing.
use borrow.Author.Tests.{le-leb}
use Rattle.contents.specs.Format.{header_right}
use Rattle.contents.proofs.format.Laws.{magic-number}
use Rattle.contents.proofs.format.is_header.Goals as goal

pub returns : goal.returns
unfolding header_right
returns c =
    simp (le-leb _ _ c.if-file-lt8.false, magic-number, ← c.u32_at-magic.ensures, ← c.u16_at-version.ensures, ← c.u16_at-n.ensures)
