-- The coefficients of the half-day resonance, in the Rust's grouping. Definitions only. Assumes nothing.
use Rattle.std.specs.Prelude.{Float}
use Rattle.floats.specs.Rounded.{◌⊕◌, ◌⊖◌, ◌⊗◌, ◌⊘◌, ⊝◌, dec}
use Rattle.floats.specs.Power.{sq, 4th}
use Rattle.orbit.specs.declared.propagator.Orbit.{Orbit}
use Rattle.orbit.specs.declared.propagator.Resonance.{Resonance}
use Rattle.orbit.specs.declared.propagator.Resonance.TheVariants.{HalfDay}
use Rattle.coefficients.specs.Eccentricity.{g211, g310, g322, g410, g422, g520, g532, g521, g533}

-- p₁₈, where i is 1.0 / a0
unfoldable pub p18 : Float → Float → Float
p18 n i = dec 3 0 ⊗ sq n ⊗ sq i

-- F₂₂₀
unfoldable pub f220 : Float → Float
f220 p1 = dec 75 2 ⊗ (dec 1 0 ⊕ dec 2 0 ⊗ p1 ⊕ sq p1)

-- D₂₂₀₋₁
unfoldable pub d2201 : Float → Float → Float → Float
d2201 p18 p1 e = p18 ⊗ dec 17891679 13 ⊗ f220 p1 ⊗ (⊝ dec 306 3 ⊖ (e ⊖ dec 64 2) ⊗ dec 44 2)

-- D₂₂₁₁
unfoldable pub d2211 : Float → Float → Float → Float
d2211 p18 s e = p18 ⊗ dec 17891679 13 ⊗ (dec 15 1 ⊗ sq s) ⊗ g211 e

-- D₃₂₁₀
unfoldable pub d3210 : Float → Float → Float → Float → Float
d3210 p19 s p1 e = p19 ⊗ dec 37393792 14 ⊗ (dec 1875 3 ⊗ s ⊗ (dec 1 0 ⊖ dec 2 0 ⊗ p1 ⊖ dec 3 0 ⊗ sq p1)) ⊗ g310 e

-- D₃₂₂₂
unfoldable pub d3222 : Float → Float → Float → Float → Float
d3222 p19 s p1 e = p19 ⊗ dec 37393792 14 ⊗ (⊝ dec 1875 3 ⊗ s ⊗ (dec 1 0 ⊕ dec 2 0 ⊗ p1 ⊖ dec 3 0 ⊗ sq p1)) ⊗ g322 e

-- D₄₄₁₀
unfoldable pub d4410 : Float → Float → Float → Float → Float
d4410 p20 s p1 e = dec 2 0 ⊗ p20 ⊗ dec 73636953 16 ⊗ (dec 35 0 ⊗ sq s ⊗ f220 p1) ⊗ g410 e

-- D₄₄₂₂
unfoldable pub d4422 : Float → Float → Float → Float
d4422 p20 s e = dec 2 0 ⊗ p20 ⊗ dec 73636953 16 ⊗ (dec 39375 3 ⊗ 4th s) ⊗ g422 e

-- D₅₂₂₀
unfoldable pub d5220 : Float → Float → Float → Float → Float
d5220 p21 s p1 e =
    p21 ⊗ dec 11428639 14
    ⊗ (dec 984375 5
    ⊗ s
    ⊗ (sq s ⊗ (dec 1 0 ⊖ dec 2 0 ⊗ p1 ⊖ dec 5 0 ⊗ sq p1) ⊕ dec 33333333 8 ⊗ (⊝ dec 2 0 ⊕ dec 4 0 ⊗ p1 ⊕ dec 6 0 ⊗ sq p1)))
    ⊗ g520 e

-- D₅₂₃₂, with 1 + 2 p₁
unfoldable pub d5232 : Float → Float → Float → Float → Float
d5232 p21 s p1 e =
    p21 ⊗ dec 11428639 14
    ⊗ (s
    ⊗ (dec 492187512 8 ⊗ sq s ⊗ (⊝ dec 2 0 ⊖ dec 4 0 ⊗ p1 ⊕ dec 10 0 ⊗ sq p1)
    ⊕ dec 656250012 8 ⊗ (dec 1 0 ⊕ dec 2 0 ⊗ p1 ⊖ dec 3 0 ⊗ sq p1)))
    ⊗ g532 e

-- D₅₄₂₁
unfoldable pub d5421 : Float → Float → Float → Float → Float
d5421 p21 s p1 e =
    dec 2 0 ⊗ p21
    ⊗ dec 21765803 16
    ⊗ (dec 2953125 5 ⊗ s ⊗ (dec 2 0 ⊖ dec 8 0 ⊗ p1 ⊕ sq p1 ⊗ (⊝ dec 12 0 ⊕ dec 8 0 ⊗ p1 ⊕ dec 10 0 ⊗ sq p1)))
    ⊗ g521 e

-- D₅₄₃₃
unfoldable pub d5433 : Float → Float → Float → Float → Float
d5433 p21 s p1 e =
    dec 2 0 ⊗ p21
    ⊗ dec 21765803 16
    ⊗ (dec 2953125 5 ⊗ s ⊗ (⊝ dec 2 0 ⊖ dec 8 0 ⊗ p1 ⊕ sq p1 ⊗ (dec 12 0 ⊕ dec 8 0 ⊗ p1 ⊖ dec 10 0 ⊗ sq p1)))
    ⊗ g533 e

-- the coefficients, where i is 1.0 / a0 and p is p₁₈: p₁₉, p₂₀ and p₂₁ are products with i
abbrev pub coefficients_by : Orbit → Float → Float → Float → Float → Float → Resonance
coefficients_by o p1 k14 s i p =
    HalfDay
    (d2201 p p1 o.eccentricity)
    (d2211 p s o.eccentricity)
    (d3210 (p ⊗ i) s p1 o.eccentricity)
    (d3222 (p ⊗ i) s p1 o.eccentricity)
    (d4410 (p ⊗ i ⊗ i) s p1 o.eccentricity)
    (d4422 (p ⊗ i ⊗ i) s o.eccentricity)
    (d5220 (p ⊗ i ⊗ i ⊗ i) s p1 o.eccentricity)
    (d5232 (p ⊗ i ⊗ i ⊗ i) s p1 o.eccentricity)
    (d5421 (p ⊗ i ⊗ i ⊗ i) s p1 o.eccentricity)
    (d5433 (p ⊗ i ⊗ i ⊗ i) s p1 o.eccentricity)
    k14

-- the coefficients d2201 .. d5433 and k14, from p1, a0, k14 and the sine of the inclination
abbrev pub coefficients : Orbit → Float → Float → Float → Float → Resonance
coefficients o p1 a0 k14 s = let i = dec 1 0 ⊘ a0 in coefficients_by o p1 k14 s i (p18 o.mean_motion i)
