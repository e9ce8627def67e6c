-- `rates::half_day` meets its contract: the sums are the definition's, and each wave is its angle's. Assumes nothing.
use mathlib.Core.Path.{◌≡◌, ◌∙◌}
use lib.Ieee.{Float, of_bits, round}
use Rattle.floats.specs.Rounded.{dec}
use Rattle.floats.specs.declared.trig.Wave.{Wave}
use Rattle.rates.specs.Rates.{g22, g32, g44, g52, g54, half_day_from}
use Rattle.rates.proofs.half_day.Goals as goal

same : (l d2201 d2211 d3210 d3222 d4410 d4422 d5220 d5232 d5421 d5433 : Float) (a0 a1 a2 a3 a4 a5 a6 a7 a8 a9 b0 b1 b2 b3 b4 b5 b6 b7 b8 b9 : Wave)
    → a0 ≡ b0 → a1 ≡ b1 → a2 ≡ b2 → a3 ≡ b3 → a4 ≡ b4 → a5 ≡ b5 → a6 ≡ b6 → a7 ≡ b7 → a8 ≡ b8 → a9 ≡ b9
    → half_day_from l d2201 d2211 d3210 d3222 d4410 d4422 d5220 d5232 d5421 d5433 a0 a1 a2 a3 a4 a5 a6 a7 a8 a9 ≡ half_day_from l d2201 d2211 d3210 d3222 d4410 d4422 d5220 d5232 d5421 d5433 b0 b1 b2 b3 b4 b5 b6 b7 b8 b9
same l d2201 d2211 d3210 d3222 d4410 d4422 d5220 d5232 d5421 d5433 a0 a1 a2 a3 a4 a5 a6 a7 a8 a9 b0 b1 b2 b3 b4 b5 b6 b7 b8 b9 p0 p1 p2 p3 p4 p5 p6 p7 p8 p9 = cc

pub returns : goal.returns
unfolding half_day_from g22 g32 g44 g52 g54 dec of_bits round
returns c =
    c.checked.ensures
    ∙ same _ _ _ _ _ _ _ _ _ _ _ _ _ _ _ _ _ _ _ _ _ _ _ _ _ _ _ _ _ _ _
    c.sines-a2201.ensures
    c.sines-a2211.ensures
    c.sines-a3210.ensures
    c.sines-a3222.ensures
    c.sines-a4410.ensures
    c.sines-a4422.ensures
    c.sines-a5220.ensures
    c.sines-a5232.ensures
    c.sines-a5421.ensures
    c.sines-a5433.ensures
