-- `store::save::save` meets its contract: each refusal is its test, all before the first store, and the body handed on is the record's. Assumes nothing.
use mathlib.Core.Path.{◌≡◌, sym, ap, ◌∙◌}
use lib.ListN.{length}
use Rattle.contents.specs.Save.{saved}
use Rattle.body.specs.Body.{body_of}
use Rattle.body.specs.declared.examine.Record.{Record}
use Rattle.body.specs.declared.examine.BodyError.{BodyError}
use Rattle.store.specs.Save.{of_examined, of_saved, stored}
use Rattle.std.specs.Prelude.{Result}
use Rattle.std.proofs.lemmas.Result.{err_from_is_err_and}
use Rattle.store.proofs.Answer.{passed, front, handed}
use Rattle.store.proofs.save.save.Goals.{After-examine}
use Rattle.store.proofs.save.save.Goals as goal

-- past 4, 5 and 14 the answer is the examination's, or the file's
past : (c : After-examine)
    → let a = c.args in
    stored a.file.now a.satellite a.constants a.state (length a.out.now)
    ≡ of_examined c.examine.result (of_saved (saved a.file.now a.satellite (body_of a.constants a.state) (length a.out.now)))
past c =
    let a = c.args in
    passed a.file.now a.satellite a.constants a.state (length a.out.now) record {
      not-four = simp (← c.is_some-given.ensures, ← c.is_resonant-resonant.ensures) c.if-given-resonant.false;
      not_five = simp (← c.is_some-given.ensures, ← c.is_resonant-resonant.ensures) c.if-given-resonant-2.false;
      right = sym c.is_right.ensures ∙ c.if-not-is_right.false;
    }
    ∙ ap (λ (b : Result Record BodyError). of_examined b (of_saved (saved a.file.now a.satellite (body_of a.constants a.state) (length a.out.now)))) (sym c.examine.ensures)

pub slice_bounds-save-end : goal.slice_bounds-save-end
slice_bounds-save-end c =
    let a = c.args in
    c.body_size-size.ensures ∙ sym (ap length (front a.constants a.state c.body_size-size.ensures c.body_of-b.ensures))

pub returns-in_err-written : goal.returns-in_err-written
returns-in_err-written c =
    let a = c.args in
    let p = err_from_is_err_and c.from_residual-in_err-written.result c.from_residual-in_err-written.ensures.1 in
    let b = front a.constants a.state c.body_size-size.ensures c.body_of-b.ensures in
    let e = past (goal.at.returns-in_err-written c).After-examine ∙ simp c.in_ok-examine.was in
    let h = handed a.file.now a.satellite a.constants a.state a.out.now b c.save.ensures.0 c.save.ensures.1 e in
    rw (p.1, p.2) (simp c.in_err-written.was at h)

pub returns : goal.returns
returns c =
    let a = c.args in
    let b = front a.constants a.state c.body_size-size.ensures c.body_of-b.ensures in
    let e = past (goal.at.returns c).After-examine ∙ simp c.in_ok-examine.was in
    let h = handed a.file.now a.satellite a.constants a.state a.out.now b c.save.ensures.0 c.save.ensures.1 e in
    simp c.in_ok-written.was at h
