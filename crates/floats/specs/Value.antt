-- What a float is as a number: its sign bit, whether it is zero, and its size over whole numbers. Definitions only. Assumes nothing.
use Rattle.std.specs.Prelude.{ℕ, ◌*◌, ◌/◌, ◌^◌, Bool, false, leb, ltb, eqb, Float, ℤ}
use Rattle.std.specs.Float.{nan, inf, fin, binary64}
use Rattle.std.specs.Float.Ieee.{up, down, to_bits}

-- the sign bit; the NaN of the logic has none
abbrev pub negative : Float → Bool
negative nan = false
negative (inf s) = s
negative (fin s m e) = s

-- +0.0 or -0.0
abbrev pub is_zero : Float → Bool
is_zero nan = false
is_zero (inf s) = false
is_zero (fin s m e) = eqb m 0

-- finite, and at most n in size
abbrev pub at_most : ℕ → Float → Bool
at_most n nan = false
at_most n (inf s) = false
at_most n (fin s m e) = leb (m * up e) (n * down e)

-- |x| < |y|, of finite numbers
abbrev pub shorter : Float → Float → Bool
shorter nan y = false
shorter (inf s) y = false
shorter (fin s m e) nan = false
shorter (fin s m e) (inf t) = false
shorter (fin s m e) (fin t n d) = ltb (m * up e * down d) (n * up d * down e)

-- how many times 2 ^ -1074 a finite float is, its sign apart: a whole number for every float of the format
unfoldable pub in_units : ℕ → ℤ → ℕ
in_units m e = m * up e * 2 ^ 1074 / down e

abbrev pub count : Float → ℕ
count nan = 0
count (inf s) = 0
count (fin s m e) = in_units m e

-- equal in every bit
abbrev pub same_bits : Float → Float → Bool
same_bits x y = eqb (to_bits binary64 x) (to_bits binary64 y)
