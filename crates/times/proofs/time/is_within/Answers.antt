-- `times::time::is_within` meets its contract: `contains` is two comparisons with ±720·2^20. Assumes nothing.
use mathlib.Core.Path.{refl, ◌∙◌}
use mathlib.Core.Bool.{true, false}
use lib.IntN.{pos}
use lib.Ieee.{fin, le, of_bits, neg}
use Rattle.floats.proofs.Values.{between}
use Rattle.floats.proofs.Ranges.{partial_le-floats}
use Rattle.times.proofs.Compared.{and-comm}
use Rattle.times.proofs.time.is_within.Goals as goal

pub returns : goal.returns
unfolding of_bits neg
returns c =
    let x = c.args.x in
    c.contains.ensures.value
    ∙ simp (c.new.ensures.start, c.new.ensures.end, c.new.ensures.exhausted, partial_le-floats)
    (and-comm (le (fin true 45 (pos 24)) x) (le x (fin false 45 (pos 24))) ∙ between x 45 24 754974720 refl)
