-- A sign for each rounded operation on 64-bit floats, decimals as floats, and the magnitude. `finite`, `to_bits`, `of_bits` and the comparisons are the library's.
-- Definitions only. Assumes nothing.
use Rattle.std.specs.Prelude.{ℕ, ◌^◌, false, cond, Float}
use Rattle.std.specs.Float.{binary64}
use Rattle.std.specs.Float.Ieee.{add, sub, mul, div, rem as fmod, neg, round, lt}

infixl 65 ◌⊕◌ ◌⊖◌
infixl 70 ◌⊗◌ ◌⊘◌ ◌rem◌
infix 75 ⊝◌
abbrev pub ◌⊕◌ : Float → Float → Float
◌⊕◌ = add binary64

abbrev pub ◌⊖◌ : Float → Float → Float
◌⊖◌ = sub binary64

abbrev pub ◌⊗◌ : Float → Float → Float
◌⊗◌ = mul binary64

abbrev pub ◌⊘◌ : Float → Float → Float
◌⊘◌ = div binary64

-- Rust's `%`
abbrev pub ◌rem◌ : Float → Float → Float
◌rem◌ = fmod binary64

abbrev pub ⊝◌ : Float → Float
⊝◌ = neg

-- the decimal digits / 10 ^ places, rounded once: 0.05490 is `dec 5490 5`
unfoldable pub dec : ℕ → ℕ → Float
dec digits places = round binary64 false digits (10 ^ places)

-- x without its sign, but that -0.0 keeps it
abbrev pub magnitude : Float → Float
magnitude x = cond (lt x (dec 0 0)) (⊝ x) x
