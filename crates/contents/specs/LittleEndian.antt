-- Numbers as bytes, the lowest byte first. Definitions only. Assumes nothing.
use Rattle.std.specs.Prelude.{ℕ, zero, suc, ◌+◌, ◌*◌, ◌/◌, ◌%◌, cond, List, [], ◌∷◌, length, drop, leb}

-- the number of the first n bytes of a list; what lies past its end counts 0
unfoldable pub le : ℕ → List ℕ → ℕ
le zero s = 0
le (suc n) [] = 0
le (suc n) (b ∷ s) = b + 256 * le n s

-- the n bytes of a number
unfoldable pub le_bytes : ℕ → ℕ → List ℕ
le_bytes zero x = []
le_bytes (suc n) x = x % 256 ∷ le_bytes n (x / 256)

-- the number of the eight bytes at `at`, or 0 where they are not all there
unfoldable pub word_at : ℕ → List ℕ → ℕ
word_at at s = cond (leb (at + 8) (length s)) (le 8 (drop at s)) 0
