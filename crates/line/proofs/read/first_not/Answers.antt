-- `line::read::first_not` meets its contract. Assumes nothing.
use Rattle.std.proofs.Common.{rules, ◌≡◌, ◌∙◌, ap, ℕ, ◌+◌, option_map}
use Rattle.line.proofs.Laws.{first-is}
use Rattle.line.proofs.read.first_not.Goals as goal

pub returns : goal.returns
returns c =
    let a = c.args in
    let e : c.map.result ≡ option_map (λ (i : ℕ). a.column + i + 1) c.first_other.result = search rules in
    e ∙ ap (option_map (λ (i : ℕ). a.column + i + 1)) c.first_other.ensures ∙ first-is a.low a.high a.column a.bytes.now
