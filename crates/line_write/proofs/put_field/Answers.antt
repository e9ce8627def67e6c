-- `line_write::put_field` meets its contract: the digits behind the point, the point, the digits before it. Assumes nothing.
use Rattle.std.proofs.Common.{◌≡◌, sym, ◌∙◌, ap, ℕ, ◌-◌, ◌/◌, ◌^◌, List, arith}
use native.Mathlib.Nat.{div-one}
use borrow.Author.Tests.{le-leb, lt-leb}
use lib.ListN.{set}
use Rattle.line.proofs.Laws.{shapes, length-range}
use Rattle.line_write.specs.Write.{field_on, laid, padded, point_on}
use Rattle.line_write.proofs.Laws.{mid-laid, laid_nil, length-padded}
use Rattle.line_write.proofs.put_field.Goals.{then-f, else-f}
use Rattle.line_write.proofs.put_field.Goals as goal

pub returns : goal.returns
unfolding field_on padded
returns c =
    let a = c.args in
    let f = a.f in
    let s = a.line.now in
    let p = shapes f in
    let k = f.point - 1 - (f.first - 1) in
    let behind : c.if-f.line ≡ point_on f (laid f.point (padded 0 (f.last - f.point) a.x) s) =
    elim c.if-f.branch [
      | then-f w ↦
          w.line-is
          ∙ ap (λ (l : List ℕ). set l (f.point - 1) 46)
          (mid-laid f.point (f.last - f.point) s _ (padded 0 (f.last - f.point) a.x)
          (w.put-whole.ensures.1 ∙ ap (λ (n : ℕ). padded 0 n a.x) (length-range s f.point f.last (omega arith)))
          (sym (length-padded 0 (f.last - f.point) a.x)))
          ∙ simp (le-leb _ _ w.if-f.true)
      | else-f w ↦
          let none : f.last - f.point ≡ 0 = omega arith in
          w.line-is ∙ simp (lt-leb _ _ w.if-f.false, none) (sym (laid_nil f.point s))
    ] in
    let left : c.if-f.whole ≡ a.x / 10 ^ (f.last - f.point) =
    elim c.if-f.branch [
      | then-f w ↦ w.whole-is ∙ w.put-whole.ensures.0 ∙ ap (λ (n : ℕ). a.x / 10 ^ n) (length-range s f.point f.last (omega arith))
      | else-f w ↦
          let none : f.last - f.point ≡ 0 = omega arith in
          w.whole-is ∙ simp none (sym (div-one a.x))
    ] in
    mid-laid (f.first - 1) k c.if-f.line _ (padded a.blanks k c.if-f.whole)
    (c.put.ensures.1 ∙ ap (λ (n : ℕ). padded a.blanks n c.if-f.whole) (length-range c.if-f.line (f.first - 1) (f.point - 1) (omega (arith, c.if-f.array_long))))
    (sym (length-padded a.blanks k c.if-f.whole))
    ∙ ap (λ (w : ℕ). laid (f.first - 1) (padded a.blanks k w) c.if-f.line) left
    ∙ ap (λ (l : List ℕ). laid (f.first - 1) (padded a.blanks k (a.x / 10 ^ (f.last - f.point))) l) behind
