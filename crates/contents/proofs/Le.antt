-- The laws of little-endian numbers: the library's are these, and a number is read back from its bytes. Assumes nothing.
use mathlib.Core.Path.{◌≡◌, refl, ap, ◌∙◌}
use mathlib.Core.List.{List, [], ◌∷◌, ◌++◌}
use Prim.Native.Nat.{ℕ, zero, suc, ◌+◌, ◌*◌, ◌-◌, ◌/◌, ◌%◌, ◌^◌, ◌<◌, ◌≤◌}
use native.Mathlib.Nat.{add_assoc, suc-add, pow-succ', pow-suc, pow-zero, div-one, div-div-eq-div-mul}
use native.Mathlib.Omega.{arith}
use lib.ListN.{length, take, drop, get_or}
use borrow.Author.Tests.{le-leb, lt-leb}
use Rattle.std.specs.Array.{IsFirstChunk}
use Rattle.std.proofs.lemmas.List.{take_rest}
use Rattle.std.specs.Int.{w16, w32, w64, bytes_low_first, to_le_bytes, from_le_bytes}
use Rattle.contents.specs.LittleEndian.{le, le_bytes, word_at}

-- past the end all bytes count 0
pub le-nil : (n : ℕ) → le n [] ≡ 0
unfolding le
le-nil zero = refl
le-nil (suc n) = refl

-- ---- the library's numbers and bytes are these

-- one byte, and the n after it
le-next : (n i : ℕ) (s : List ℕ) → le (suc n) (drop i s) ≡ get_or s i 0 + 256 * le n (drop (i + 1) s)
unfolding le
le-next n zero [] = simp le-nil
le-next n (suc i) [] = simp (suc-add, le-nil)
le-next n zero (b ∷ s) = refl
le-next n (suc i) (b ∷ s) = le-next n i s ∙ simp suc-add

-- bytes past the n first change nothing
le-take : (n : ℕ) (s : List ℕ) → le n (take n s) ≡ le n s
unfolding le
le-take zero s = refl
le-take (suc n) [] = refl
le-take (suc n) (b ∷ s) = ap (λ (k : ℕ). b + 256 * k) (le-take n s)

le_place : (at n k : ℕ) (s : List ℕ) → le (suc n) (drop (at + k) s) ≡ get_or s (at + k) 0 + 256 * le n (drop (at + (k + 1)) s)
le_place at n k s = le-next n (at + k) s ∙ simp add_assoc

module _ (at : ℕ) (s : List ℕ) {x : ℕ} where
  pub from_le_2 : x ≡ from_le_bytes w16 (get_or s at 0 ∷ get_or s (at + 1) 0 ∷ []) → x ≡ le 2 (drop at s)
  unfolding le
  from_le_2 h = omega (arith, le-next 1 at s, le_place at 0 1 s)

  pub from_le_4 : x ≡ from_le_bytes w32 (get_or s at 0 ∷ get_or s (at + 1) 0 ∷ get_or s (at + 2) 0 ∷ get_or s (at + 3) 0 ∷ []) → x ≡ le 4 (drop at s)
  unfolding le
  from_le_4 h = omega (arith, le-next 3 at s, le_place at 2 1 s, le_place at 1 2 s, le_place at 0 3 s)

  -- eight bytes, which the library took as an array
  pub from_le_8 : {bs : List ℕ} → IsFirstChunk (take (length s - at) (drop at s)) bs 8 → x ≡ from_le_bytes w64 bs → x ≡ le 8 (drop at s)
  unfolding le
  from_le_8 {bs} k h =
      let f : x ≡ le 8 bs =
      omega (arith, le-next 7 0 bs, le-next 6 1 bs, le-next 5 2 bs, le-next 4 3 bs, le-next 3 4 bs, le-next 2 5 bs, le-next 1 6 bs, le-next 0 7 bs) in
      f ∙ ap (le 8) (k.same ∙ ap (take 8) (take_rest s at)) ∙ le-take 8 (drop at s)

low_first : (i k x : ℕ) → bytes_low_first i k x ≡ le_bytes k (x / 256 ^ i)
unfolding le_bytes
low_first i zero x = refl
low_first zero (suc k) x = simp (low_first 1 k x, pow-zero, div-one)
low_first (suc i) (suc k) x = simp (low_first (suc (suc i)) k x, div-div-eq-div-mul, pow-suc)

take-le_bytes : (n m x : ℕ) → n ≤ m → take n (le_bytes m x) ≡ le_bytes n x
unfolding le_bytes
take-le_bytes zero m x h = refl
take-le_bytes (suc n) zero x h = absurd (omega arith)
take-le_bytes (suc n) (suc m) x h = ap (λ (l : List ℕ). x % 256 ∷ l) (take-le_bytes n m (x / 256) (omega arith))

-- the n lowest bytes of a number of eight
pub to_le : (n x : ℕ) → n ≤ 8 → take n (to_le_bytes w64 x) ≡ le_bytes n x
to_le n x h = ap (take n) (low_first 0 8 x ∙ simp (pow-zero, div-one)) ∙ take-le_bytes n 8 x h

pub length-le_bytes : (n x : ℕ) → length (le_bytes n x) ≡ n
unfolding le_bytes
length-le_bytes zero x = refl
length-le_bytes (suc n) x = ap suc (length-le_bytes n (x / 256))

-- a number is read back from its bytes
pub le-le_bytes : (n x : ℕ) (s : List ℕ) → x < 256 ^ n → le n (le_bytes n x ++ s) ≡ x
unfolding le le_bytes
le-le_bytes zero x s h = let e = pow-zero 256 in omega arith
le-le_bytes (suc n) x s h =
    let e = pow-succ' 256 n in
    let ih = le-le_bytes n (x / 256) s (omega arith) in
    omega arith

-- bytes make no number past their width
pub le-lt : (n : ℕ) (s : List ℕ) → ((i : ℕ) → get_or s i 0 < 256) → le n s < 256 ^ n
unfolding le
le-lt zero s h = let e = pow-zero 256 in omega arith
le-lt (suc n) [] h = let e = pow-succ' 256 n in let ih = le-lt n [] h in omega (arith, le-nil n)
le-lt (suc n) (b ∷ s) h =
    let e = pow-succ' 256 n in
    let ih = le-lt n s (λ i. h (suc i)) in
    omega (arith, h 0)

-- ---- eight bytes at an offset

pub word-inside : (at : ℕ) (s : List ℕ) → at + 8 ≤ length s → word_at at s ≡ le 8 (drop at s)
unfolding word_at
word-inside at s h = simp (le-leb _ _ h)

pub word-outside : (at : ℕ) (s : List ℕ) → length s < at + 8 → word_at at s ≡ 0
unfolding word_at
word-outside at s h = simp (lt-leb _ _ h)
