-- `contents::format::Contents::is_chained` meets its contract: what is left to decide decides the whole. Assumes nothing.
use mathlib.Core.Path.{sym, ◌∙◌, ap}
use Prim.Native.Nat.{◌-◌}
use native.Mathlib.Omega.{arith}
use lib.ListN.{length}
use Rattle.contents.specs.Format.{chained}
use Rattle.contents.proofs.format.Laws.{entries-next, chained-broken, chained-next, chained-end}
use Rattle.contents.proofs.format.Contents.is_chained.Goals as goal

pub returns-then-not-is_next : goal.returns-then-not-is_next
returns-then-not-is_next c =
    let l = c.loop-i in
    let a = c.args in
    let w = l.invariant.1 ∙ ap (chained (length a.self.file.now) l.least l.end) (entries-next a.self.count l.i l.i a.self.file.now (omega arith) c.entry-e.ensures) in
    sym (w ∙ chained-broken _ _ _ _ _ (sym c.is_next.ensures ∙ c.if-not-is_next.true))

pub loop-i-preserved : goal.loop-i-preserved
loop-i-preserved c =
    let l = c.loop-i in
    let a = c.args in
    let w = l.invariant.1 ∙ ap (chained (length a.self.file.now) l.least l.end) (entries-next a.self.count l.i l.i a.self.file.now (omega arith) c.entry-e.ensures) in
    (omega arith, w ∙ chained-next _ _ _ _ _ (sym c.is_next.ensures ∙ c.if-not-is_next.false))

pub returns : goal.returns
unfolding chained
returns c = let l = c.loop-i in let a = c.args in sym (l.invariant.1 ∙ chained-end _ _ _ (a.self.count - l.i) _ (omega arith))
