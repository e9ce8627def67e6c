-- `contents::save::save` meets its contract: the place that is found says what the new file is, and its tests come before the first store. Assumes nothing.
use native.Mathlib.Omega.{arith}
use Prim.Native.Nat.{ℕ, ◌+◌, ◌-◌}
use mathlib.Core.Path.{◌≡◌, sym, ◌∙◌, ap, refl, subst}
use mathlib.Core.Bool.{true}
use mathlib.Core.List.{List, ◌++◌}
use lib.ListN.{length, drop}
use Rattle.std.specs.Prelude.{Ok}
use Rattle.std.proofs.lemmas.Result.{err_from_is_err_and}
use Rattle.contents.specs.Format.{count, entries, contents_end, contents_right}
use Rattle.contents.specs.Save.{saved_file}
use Rattle.contents.specs.Table.{end_of}
use Rattle.contents.specs.declared.save.Place.{Place}
use Rattle.contents.proofs.format.Laws.{Right, right}
use Rattle.contents.proofs.save.New.{New, new}
use Rattle.contents.proofs.save.Answer.{is-wrong, too_many, too_long, no_room, is-written, three}
use Rattle.contents.proofs.save.save.Goals.{After-place-p}
use Rattle.contents.proofs.save.save.Goals as goal

-- what the old file, and the place that was found, have
record Known (s : List ℕ) (x : ℕ) (b f : List ℕ) (n : ℕ) (p : Place) : Type 0 where
  file : f ≡ s
  right : contents_right s ≡ true
  parts : Right s
  count : n ≡ count s
  new : New s x b p

known : (c : After-place-p) → Known c.args.file.now c.args.satellite c.args.body.now c.in_ok-contents.contents.file.now c.in_ok-contents.contents.count c.place-p.result
known c =
    let s = c.args.file.now in
    let x = c.args.satellite in
    let k = c.in_ok-contents.ensures in
    let f = c.place-p.ensures ∙ simp (k.file, k.count) in
    let r = right s k.right in
    record { file = k.file; right = k.right; parts = r; count = k.count; new = subst (New s x c.args.body.now) (sym f) (new s x c.args.body.now r) }

pub returns-in_err-contents : goal.returns-in_err-contents
returns-in_err-contents c =
    let p = err_from_is_err_and c.from_residual.result c.from_residual.ensures.1 in
    rw (p.1, p.2) (sym (is-wrong _ _ _ _ c.in_err-contents.ensures), refl)

pub overflow_add-count : goal.overflow_add-count
overflow_add-count c = let k = known (goal.at.overflow_add-count c).After-place-p in let r = k.parts in omega arith

pub overflow_mul-end : goal.overflow_mul-end
overflow_mul-end c = let k = known (goal.at.overflow_mul-end c).After-place-p in let r = k.parts in omega arith

pub overflow_add-end : goal.overflow_add-end
overflow_add-end c = let k = known (goal.at.overflow_add-end c).After-place-p in let r = k.parts in omega arith

pub overflow_sub-count : goal.overflow_sub-count
overflow_sub-count c = let k = known (goal.at.overflow_sub-count c).After-place-p in let n = k.new in let r = k.parts in omega arith

pub returns-then-count-gt-MOST : goal.returns-then-count-gt-MOST
returns-then-count-gt-MOST c =
    let k = known (goal.at.returns-then-count-gt-MOST c).After-place-p in
    let n = k.new in
    (sym (too_many _ _ _ _ k.right (omega arith)), refl)

pub returns-then-size-gt4294967295 : goal.returns-then-size-gt4294967295
returns-then-size-gt4294967295 c =
    let k = known (goal.at.returns-then-size-gt4294967295 c).After-place-p in
    let n = k.new in
    (sym (too_long _ _ _ _ k.right (omega arith) (omega arith)), refl)

pub overflow_sub-total : goal.overflow_sub-total
overflow_sub-total c = let k = known (goal.at.overflow_sub-total c).After-place-p in let n = k.new in let r = k.parts in omega arith

pub overflow_add-total : goal.overflow_add-total
overflow_add-total c = let k = known (goal.at.overflow_add-total c).After-place-p in let n = k.new in let r = k.parts in omega arith

pub overflow_add-total-2 : goal.overflow_add-total-2
overflow_add-total-2 c = let k = known (goal.at.overflow_add-total-2 c).After-place-p in let n = k.new in let r = k.parts in omega arith

pub overflow_sub-total-2 : goal.overflow_sub-total-2
overflow_sub-total-2 c = let k = known (goal.at.overflow_sub-total-2 c).After-place-p in let n = k.new in let r = k.parts in omega arith

pub overflow_add-total-3 : goal.overflow_add-total-3
overflow_add-total-3 c = let k = known (goal.at.overflow_add-total-3 c).After-place-p in let n = k.new in let r = k.parts in omega arith

pub returns-then-total-gt4294967295 : goal.returns-then-total-gt4294967295
returns-then-total-gt4294967295 c =
    let k = known (goal.at.returns-then-total-gt4294967295 c).After-place-p in
    let n = k.new in
    (sym (too_long _ _ _ _ k.right (omega arith) (omega arith)), refl)

pub returns-then-out-total : goal.returns-then-out-total
returns-then-out-total c =
    let k = known (goal.at.returns-then-out-total c).After-place-p in
    let n = k.new in
    (sym (no_room _ _ _ _ k.right (omega arith) (omega arith) (omega arith)), refl)

pub put_table-requires : goal.put_table-requires
put_table-requires c =
    let k = known (goal.at.put_table-requires c).After-place-p in
    let n = k.new in
    let r = k.parts in
    let p = c.place-p.result in
    let m = ap (λ (f : List ℕ). end_of (contents_end (c.in_ok-contents.contents.count + 1 - p.old)) (entries p.below (drop 8 f))) k.file
    ∙ ap (λ (j : ℕ). end_of (contents_end (j + 1 - p.old)) (entries p.below (drop 8 c.args.file.now))) k.count
    ∙ n.mid in
    omega arith

pub put_bodies-requires : goal.put_bodies-requires
put_bodies-requires c =
    let k = known (goal.at.put_bodies-requires c).After-place-p in
    let n = k.new in
    omega arith

pub returns : goal.returns
returns c =
    let a = c.args in
    let k = known (goal.at.returns c).After-place-p in
    let n = k.new in
    let s = a.file.now in
    let g = saved_file s a.satellite a.body.now in
    let m = c.in_ok-contents.contents.count in
    let p = c.place-p.result in
    let e : contents_end (m + 1 - p.old) + (p.cut - contents_end m) + length a.body.now + (length s - p.rest) ≡ length g = omega arith in (
      ap Ok e ∙ sym (is-written s a.satellite a.body.now (length a.out.now) k.right (omega arith) (omega arith) (omega arith)),
      three s a.satellite a.body.now p n m k.count a.out.now c.put_header.ensures (rw k.file at c.put_table.ensures) c.put_bodies.ensures
          ∙ ap (λ (j : ℕ). g ++ drop j a.out.now) (sym e),
    )
