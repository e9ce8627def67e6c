-- `line::read::not_padded` meets its contract. Assumes nothing.
use Rattle.std.proofs.Common.{◌≡◌, ◌∙◌, sym, ap, ◌+◌, ◌-◌, length, drop, take}
use lib.Seq.{take_all}
use native.Mathlib.Omega.{arith}
use lib.ListN.{length-drop}
use Rattle.line.specs.Read.{first_not, nought, nine}
use Rattle.line.proofs.Laws.{padded-none, padded-some}
use Rattle.line.proofs.read.not_padded.Goals as goal

pub returns-in_err-blanks : goal.returns-in_err-blanks
returns-in_err-blanks c = c.from_residual.ensures ∙ sym (padded-none c.args.column c.args.bytes.now (sym c.first_other.ensures ∙ c.in_err-blanks.was))

pub returns : goal.returns
returns c =
    let a = c.args in
    let i = c.in_ok-blanks.blanks in
    let all : take (length a.bytes.now - i) (drop i a.bytes.now) ≡ drop i a.bytes.now = take_all _ _ (omega (arith, length-drop i a.bytes.now)) in
    c.first_not.ensures
    ∙ ap (first_not nought nine (a.column + i)) all
    ∙ sym (padded-some a.column a.bytes.now i (sym c.first_other.ensures ∙ c.in_ok-blanks.was))
