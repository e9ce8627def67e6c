-- `line_write::write` meets its contract: what is copied is the line. Assumes nothing.
use Rattle.std.proofs.Common.{◌≡◌, sym, ◌∙◌, ap, ℕ, List, ◌++◌, length, drop, Ok, Result}
use borrow.Author.Tests.{le-ltb}
use lib.ListN.{set, length-set}
use lib.Seq.{length-take-le}
use Rattle.line.specs.Read.{check_digit}
use Rattle.line_write.specs.Write.{fields_on, field_on, laid, padded, written_to, output_of}
use Rattle.line_write.specs.declared.WriteError.{WriteError}
use Rattle.line_write.proofs.Laws.{line-is}
use Rattle.line_write.proofs.write.Goals as goal

pub copy_from_slice-requires : goal.copy_from_slice-requires
unfolding fields_on field_on laid padded
copy_from_slice-requires c =
    length-take-le 69 c.args.out.now c.if-out-lt69.false
    ∙ sym (length-set c.fields-line.result 68 c.check_digit.result ∙ ap length c.fields-line.ensures)

pub returns : goal.returns
unfolding written_to
returns c =
    let n = c.args.n in
    let out = c.args.out.now in
    let d : written_to (length out) n ≡ Ok tt = simp (le-ltb _ _ c.if-out-lt69.false) (sym c.fitted.ensures ∙ c.in_ok-fitted.was) in (
      sym d,
      ap (λ (l : List ℕ). l ++ drop 69 out)
          (c.copy_from_slice.ensures.after
          ∙ ap (λ (b : ℕ). set c.fields-line.result 68 b) c.check_digit.ensures
          ∙ ap (λ (s : List ℕ). set s 68 (check_digit s)) c.fields-line.ensures
          ∙ line-is n)
          ∙ sym (ap (λ (w : Result (Unit {0}) WriteError). output_of w n out) d),
    )
