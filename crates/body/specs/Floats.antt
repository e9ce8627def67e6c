-- Floats as eight bytes each, by their bits. Definitions only. Assumes nothing.
use Rattle.std.specs.Prelude.{ℕ, zero, suc, ◌+◌, List, [], ◌∷◌, ◌++◌, Float}
use Rattle.std.specs.Float.{binary64}
use Rattle.std.specs.Float.Ieee.{to_bits, of_bits}
use Rattle.contents.specs.LittleEndian.{le_bytes, word_at}

-- the float at `at`, or +0.0 where its bytes are not all there
unfoldable pub float_at : ℕ → List ℕ → Float
float_at at s = of_bits binary64 (word_at at s)

-- the n floats from `at` on
unfoldable pub floats : ℕ → ℕ → List ℕ → List Float
floats zero at s = []
floats (suc n) at s = float_at at s ∷ floats n (at + 8) s

-- the bytes of some floats, one after another
unfoldable pub float_bytes : List Float → List ℕ
float_bytes [] = []
float_bytes (x ∷ xs) = le_bytes 8 (to_bits binary64 x) ++ float_bytes xs
