-- `contents::format::Contents::read` meets its contract. Assumes nothing.
use mathlib.Core.Path.{sym, ◌∙◌}
use native.Mathlib.Omega.{arith}
use Rattle.contents.proofs.format.Laws.{headed}
use Rattle.contents.proofs.format.Contents.read.Goals as goal

pub u16_at-count-requires : goal.u16_at-count-requires
u16_at-count-requires c = let h = headed _ (sym c.is_header.ensures ∙ c.if-not-is_header.false) in omega arith

pub invariant_of-contents : goal.invariant_of-contents
invariant_of-contents c =
    let h = headed _ (sym c.is_header.ensures ∙ c.if-not-is_header.false) in
    let n = c.u16_at-count.ensures in
    record { few = omega arith; inside = omega arith }
