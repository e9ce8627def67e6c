-- `rates::one_day` meets its contract: the sums are the definition's, and each wave is its angle's. Assumes nothing.
use mathlib.Core.Path.{◌≡◌, ◌∙◌}
use lib.Ieee.{Float, of_bits, round}
use Rattle.floats.specs.Rounded.{dec}
use Rattle.floats.specs.declared.trig.Wave.{Wave}
use Rattle.rates.specs.Rates.{lambda31, lambda22, lambda33, one_day_from}
use Rattle.rates.proofs.one_day.Goals as goal

same : (l d1 d2 d3 : Float) (a1 a2 a3 b1 b2 b3 : Wave) → a1 ≡ b1 → a2 ≡ b2 → a3 ≡ b3 → one_day_from l d1 d2 d3 a1 a2 a3 ≡ one_day_from l d1 d2 d3 b1 b2 b3
same l d1 d2 d3 a1 a2 a3 b1 b2 b3 p1 p2 p3 = cc

pub returns : goal.returns
unfolding one_day_from lambda31 lambda22 lambda33 dec of_bits round
returns c =
    c.checked.ensures ∙ same _ _ _ _ _ _ _ _ _ _ c.sines-a1.ensures c.sines-a2.ensures c.sines-a3.ensures
