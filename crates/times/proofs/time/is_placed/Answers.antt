-- `times::time::is_placed` meets its contract: a zero remainder is a multiple, and a zero with a sign bit is -0.0. Assumes nothing.
use mathlib.Core.Path.{ap, ap₂, ◌∙◌}
use mathlib.Core.Bool.{Bool, false, not, ◌&&◌}
use denote.Floats.{passes}
use lib.IntN.{pos}
use lib.Ieee.{Float, fin, of_bits, fits, eq, binary64}
use Rattle.times.proofs.Placed.{multiple-is, minus-zero}
use Rattle.times.proofs.time.is_placed.Goals as goal

pub returns : goal.returns
unfolding of_bits
returns c =
    let x = c.args.x in
    ap₂ (λ (a b : Bool). a && b)
    (ap₂ (λ (a b : Bool). a && b) (ap (λ (r : Float). eq r (fin false 0 (pos 0))) c.rem.ensures ∙ multiple-is x (passes (fits binary64 x) c.well_formed.0.1)) c.is_within.ensures)
    (ap not (minus-zero x c.is_negative.result c.is_negative.ensures))
