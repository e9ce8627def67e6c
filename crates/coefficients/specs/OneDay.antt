-- The coefficients of the one-day resonance, in the Rust's grouping. Definitions only. Assumes nothing.
use Rattle.std.specs.Prelude.{Float}
use Rattle.floats.specs.Rounded.{◌⊕◌, ◌⊖◌, ◌⊗◌, ◌⊘◌, ⊝◌, dec}
use Rattle.floats.specs.Power.{sq, cubed}
use Rattle.orbit.specs.declared.propagator.Orbit.{Orbit}
use Rattle.orbit.specs.declared.propagator.Resonance.{Resonance}
use Rattle.orbit.specs.declared.propagator.Resonance.TheVariants.{OneDay}

-- p₁₇
unfoldable pub p17 : Float → Float → Float
p17 n a0 = dec 3 0 ⊗ sq (n ⊘ a0)

-- 𝛿ᵣ₁, over a0 once
unfoldable pub dr1 : Float → Float → Float → Float → Float → Float
dr1 p s p1 e a0 =
    p ⊗ (dec 9375 4 ⊗ sq s ⊗ (dec 1 0 ⊕ dec 3 0 ⊗ p1) ⊖ dec 75 2 ⊗ (dec 1 0 ⊕ p1))
    ⊗ (dec 1 0 ⊕ dec 2 0 ⊗ sq e)
    ⊗ dec 21460748 13
    ⊘ a0

-- 𝛿ᵣ₂
unfoldable pub dr2 : Float → Float → Float → Float
dr2 p p1 e =
    dec 2 0 ⊗ p
    ⊗ (dec 75 2 ⊗ sq (dec 1 0 ⊕ p1))
    ⊗ (dec 1 0 ⊕ sq e ⊗ (⊝ dec 25 1 ⊕ dec 8125 4 ⊗ sq e))
    ⊗ dec 17891679 13

-- 𝛿ᵣ₃, over a0 once
unfoldable pub dr3 : Float → Float → Float → Float → Float
dr3 p p1 e a0 =
    dec 3 0 ⊗ p
    ⊗ (dec 1875 3 ⊗ cubed (dec 1 0 ⊕ p1))
    ⊗ (dec 1 0 ⊕ sq e ⊗ (⊝ dec 6 0 ⊕ dec 660937 5 ⊗ sq e))
    ⊗ dec 22123015 14
    ⊘ a0

-- the coefficients dr1 dr2 dr3, from p1, a0 and the sine of the inclination
abbrev pub coefficients : Orbit → Float → Float → Float → Resonance
coefficients o p1 a0 s =
    let p = p17 o.mean_motion a0 in
    OneDay (dr1 p s p1 o.eccentricity a0) (dr2 p p1 o.eccentricity) (dr3 p p1 o.eccentricity a0)
