-- Sine and cosine of an angle in radians, as rounded operations: the recipe is the definition (docs/FLOATS.md has it in numbered steps). Definitions only.
-- Assumes nothing.
use Rattle.std.specs.Prelude.{ℕ, zero, suc, ◌*◌, Bool, true, false, cond, Float, Option, Some, None}
use Rattle.std.specs.Bool.{then_some}
use Rattle.std.specs.Float.{binary64}
use Rattle.std.specs.Float.Ieee.{round, le, of_bits}
use Rattle.floats.specs.Rounded.{◌⊕◌, ◌⊖◌, ◌⊗◌, dec, magnitude}
use Rattle.floats.specs.declared.trig.Wave.{Wave}
use Rattle.floats.specs.declared.trig.SinCos.{SinCos}

-- document 01's number of an answer: 0 where the angle is answered, and 9 where it is refused
abbrev pub number : Option Float → ℕ
number (Some y) = 0
number None = 9

-- the largest magnitude that is answered
unfoldable pub angle_limit : Float
angle_limit = dec 1048576 0

-- ---- the kernels: the series with rounded 1 / n!, to degree 15 and 16, in pairs of terms

-- n!
abbrev pub factorial : ℕ → ℕ
factorial zero = 1
factorial (suc n) = suc n * factorial n

-- the float nearest to 1 / n!
unfoldable pub over : ℕ → Float
over n = round binary64 false 1 (factorial n)

-- 1/3! - z/5! + z²/7! - .. + z⁶/15!, where z = x²
unfoldable pub sine_sum : Float → Float
sine_sum z =
    let w = z ⊗ z in
    ((over 3 ⊖ z ⊗ over 5) ⊕ w ⊗ (over 7 ⊖ z ⊗ over 9))
    ⊕ (w ⊗ w) ⊗ ((over 11 ⊖ z ⊗ over 13) ⊕ w ⊗ over 15)

-- 1/2! - z/4! + z²/6! - .. - z⁷/16!
unfoldable pub cosine_sum : Float → Float
cosine_sum z =
    let w = z ⊗ z in
    ((over 2 ⊖ z ⊗ over 4) ⊕ w ⊗ (over 6 ⊖ z ⊗ over 8))
    ⊕ (w ⊗ w) ⊗ ((over 10 ⊖ z ⊗ over 12) ⊕ w ⊗ (over 14 ⊖ z ⊗ over 16))

-- sin x = x (1 - z (1/3! - ..))
unfoldable pub sine_kernel : Float → Float
sine_kernel x = let z = x ⊗ x in x ⊗ (dec 1 0 ⊖ z ⊗ sine_sum z)

-- cos x = 1 - z (1/2! - ..)
unfoldable pub cosine_kernel : Float → Float
cosine_kernel x = let z = x ⊗ x in dec 1 0 ⊖ z ⊗ cosine_sum z

-- ---- the reduction by quarter turns

-- the whole number nearest to y, a tie to the even one, for a y up to 2 ^ 51 in magnitude: a float of 2 ^ 52 to 2 ^ 53 has no fraction
unfoldable pub nearby : Float → Float
nearby y = (y ⊕ dec 6755399441055744 0) ⊖ dec 6755399441055744 0

-- how many quarter turns x is, to the nearest: x times 2/π
unfoldable pub quarters : Float → Float
quarters x = nearby (x ⊗ of_bits binary64 0x3FE4_5F30_6DC9_C883)

-- x less k quarter turns: π/2 is the sum of two floats, the first of 27 digits, so that k times it is exact for a k of 26
unfoldable pub reduced : Float → Float → Float
reduced x k = (x ⊖ k ⊗ of_bits binary64 0x3FF9_21FB_5400_0000) ⊖ k ⊗ of_bits binary64 0x3E11_0B46_11A6_2633

-- the sine of k quarter turns: 0, 1, 0, -1 and so on. k/2 goes to the even neighbour where k is odd
unfoldable pub swing : Float → Float
swing k = let h = nearby (k ⊗ dec 5 1) in k ⊖ (h ⊕ h)

-- ---- the answer

-- up to this magnitude, the float below π/4, the kernels take x as it is
unfoldable pub direct_limit : Float
direct_limit = dec 7853981633974483 16

abbrev pub wave : Float → Float → Bool → Wave
wave s c ok = record { sin = s; cos = c; ok = ok }

-- sin (r + kπ/2) = cos (kπ/2) sin r + sin (kπ/2) cos r, and likewise for the cosine
unfoldable pub turned : Float → Float → Bool → Wave
turned r k ok =
    let s = sine_kernel r in
    let c = cosine_kernel r in
    let b = swing k in
    let a = swing (k ⊕ dec 1 0) in
    wave (a ⊗ s ⊕ b ⊗ c) (a ⊗ c ⊖ b ⊗ s) ok

-- sine and cosine of x, and whether x is answered: its magnitude is at most the limit, which no NaN's is
unfoldable pub wave_of : Float → Wave
wave_of x =
    cond (le (magnitude x) direct_limit) (wave (sine_kernel x) (cosine_kernel x) true)
    (turned (reduced x (quarters x)) (quarters x) (le (magnitude x) angle_limit))

-- both where x is answered
abbrev pub sin_cos_of : Float → Option SinCos
sin_cos_of x = then_some (wave_of x).ok (record { sin = (wave_of x).sin; cos = (wave_of x).cos })

abbrev pub sine_of : Float → Option Float
sine_of x = then_some (wave_of x).ok (wave_of x).sin

abbrev pub cosine_of : Float → Option Float
cosine_of x = then_some (wave_of x).ok (wave_of x).cos
