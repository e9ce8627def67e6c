-- `contents::format::Contents::find` meets its contract: what is found in what is left is found in all. Assumes nothing.
use Prim.Native.Nat.{◌-◌}
use mathlib.Core.Path.{sym, ◌∙◌, ap}
use native.Mathlib.Omega.{arith}
use Rattle.contents.specs.Find.{sought}
use Rattle.contents.proofs.format.Laws.{entries-next}
use Rattle.contents.proofs.find.Laws.{sought-here, sought-past, sought-end}
use Rattle.contents.proofs.format.Contents.find.Goals as goal

pub returns-then-e-satellite : goal.returns-then-e-satellite
returns-then-e-satellite c =
    let l = c.loop-i in
    let a = c.args in
    let w = l.invariant ∙ ap (sought a.satellite) (entries-next a.self.count l.i l.i a.self.file.now (omega arith) c.entry-e.ensures) in
    sym (w ∙ sought-here _ _ _ c.if-e-satellite.true)

pub loop-i-preserved : goal.loop-i-preserved
loop-i-preserved c =
    let l = c.loop-i in
    let a = c.args in
    let w = l.invariant ∙ ap (sought a.satellite) (entries-next a.self.count l.i l.i a.self.file.now (omega arith) c.entry-e.ensures) in
    w ∙ sought-past _ _ _ c.if-e-satellite.false

pub returns : goal.returns
returns c = let l = c.loop-i in let a = c.args in sym (l.invariant ∙ sought-end _ (a.self.count - l.i) _ (omega arith))
