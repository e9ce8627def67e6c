-- `contents::format::Contents::place` meets its contract: the place among what is left is the place among all. Assumes nothing.
use Prim.Native.Nat.{ℕ, ◌-◌}
use mathlib.Core.Path.{◌≡◌, sym, ◌∙◌, ap}
use native.Mathlib.Omega.{arith}
use Rattle.contents.specs.Table.{place_of}
use Rattle.contents.specs.declared.save.Place.{Place}
use Rattle.contents.proofs.format.Laws.{entries-next}
use Rattle.contents.proofs.save.Laws.{place-before, place_here, place-past, place_end}
use Rattle.contents.proofs.format.Contents.place.Goals as goal

pub returns-then-satellite-e : goal.returns-then-satellite-e
returns-then-satellite-e c =
    let l = c.loop-below in
    let a = c.args in
    let w = l.invariant.1 ∙ ap (place_of a.satellite l.below l.cut) (entries-next a.self.count l.below l.below a.self.file.now (omega arith) c.entry-e.ensures) in
    sym (w ∙ place-before _ _ _ _ _ c.if-satellite-e.true)

pub returns-then-satellite-e-2 : goal.returns-then-satellite-e-2
returns-then-satellite-e-2 c =
    let l = c.loop-below in
    let a = c.args in
    let w = l.invariant.1 ∙ ap (place_of a.satellite l.below l.cut) (entries-next a.self.count l.below l.below a.self.file.now (omega arith) c.entry-e.ensures) in
    sym (w ∙ place_here _ _ _ _ _ c.if-satellite-e.false c.if-satellite-e-2.true)

pub loop-below-preserved : goal.loop-below-preserved
loop-below-preserved c =
    let l = c.loop-below in
    let a = c.args in
    let w = l.invariant.1 ∙ ap (place_of a.satellite l.below l.cut) (entries-next a.self.count l.below l.below a.self.file.now (omega arith) c.entry-e.ensures) in
    (omega arith, w ∙ place-past _ _ _ _ _ c.if-satellite-e.false c.if-satellite-e-2.false)

pub returns : goal.returns
returns c =
    let l = c.loop-below in
    let a = c.args in
    let e : l.below ≡ a.self.count = omega arith in
    sym (l.invariant.1 ∙ place_end _ _ _ (a.self.count - l.below) _ (omega arith)
    ∙ ap (λ (i : ℕ). let p : Place = record { below = i; cut = l.cut; old = 0; rest = l.cut } in p) e)
