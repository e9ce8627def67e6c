-- `line::read::check_digit` meets its contract: all of a shorter line is its first 68 bytes. Assumes nothing.
use Rattle.std.proofs.Common.{◌≡◌, ℕ, ◌+◌, ◌%◌, ◌∙◌, ap, length, take, min, sum_by, arith}
use Rattle.std.proofs.lemmas.List.{length-take, take_min}
use Rattle.line.specs.Read.{weight_of, check_digit}
use Rattle.line.proofs.Laws.{weights-most}
use Rattle.line.proofs.read.check_digit.Goals as goal

pub sum-requires : goal.sum-requires
sum-requires c = omega (arith, weights-most (take c.min.result c.args.line.now) (omega (arith, length-take c.min.result c.args.line.now)))

pub returns : goal.returns
unfolding check_digit
returns c =
    let s = c.args.line.now in
    let m : c.min.result ≡ min 68 (length s) = omega (arith, c.min.ensures) in
    ap (λ (x : ℕ). 48 + x % 10) (c.sum.ensures ∙ ap (sum_by weight_of) (ap (λ (k : ℕ). take k s) m ∙ take_min 68 s))
