-- The laws of floats as bytes: one more is written or read, and what was written is read back. Assumes nothing.
use mathlib.Core.Path.{◌≡◌, refl, sym, ap, ◌∙◌, subst}
use mathlib.Core.List.{List, [], ◌∷◌, ◌++◌, append_assoc}
use Prim.Native.Nat.{ℕ, zero, suc, ◌+◌, ◌*◌, ◌≤◌, ◌<◌}
use native.Mathlib.Nat.{add-zero, mul-zero}
use native.Mathlib.Numerals.{add-one}
use native.Mathlib.Omega.{arith}
use mathlib.Core.Bool.{Bool, true, false}
use denote.Param.Members.{Mut, Called}
use borrow.Author.Tests.{eqb-true, eqb-false}
use Rattle.std.specs.Array.{IsFromFnResultFrom, IsFromFnResult}
use lib.Dec.{T, eqb}
use lib.ListN.{length, drop, get_or, length-append}
use lib.Seq.{drop-cons, drop_at, drop-length}
use lib.Ieee.{Float, nan, binary64, of_bits, to_bits, fits}
use lib.Ieee.Bits.{of_bits-to_bits, to_bits-lt}
use Rattle.contents.specs.LittleEndian.{le, le_bytes}
use Rattle.contents.specs.Laid.{laid, laid_inside}
use Rattle.contents.proofs.Le.{length-le_bytes, le-le_bytes, word-inside}
use Rattle.contents.proofs.Laid.{laid-laid, laid_nil, laid-inside}
use Rattle.body.specs.Floats.{float_at, floats, float_bytes}
use Rattle.body.specs.Back.{Held}

-- ---- written

pub length-float_bytes : (xs : List Float) → length (float_bytes xs) ≡ 8 * length xs
unfolding float_bytes
length-float_bytes [] = refl
length-float_bytes (x ∷ xs) = simp (length-append, length-le_bytes, length-float_bytes xs) (omega arith)

pub float_bytes-append : (xs ys : List Float) → float_bytes (xs ++ ys) ≡ float_bytes xs ++ float_bytes ys
unfolding float_bytes
float_bytes-append [] ys = refl
float_bytes-append (x ∷ xs) ys = simp (append_assoc, float_bytes-append xs ys)

-- one float more is written
pub laid-float : (at i : ℕ) (xs : List Float) (d : Float) (l : List ℕ) {l₁ : List ℕ} → at + 8 * i + 8 ≤ length l → i < length xs
    → l₁ ≡ laid_inside (at + 8 * i) (le_bytes 8 (to_bits binary64 (get_or xs i d))) l
    → laid (at + 8 * i) (float_bytes (drop i xs)) l ≡ laid (at + 8 * (i + 1)) (float_bytes (drop (i + 1) xs)) l₁
unfolding float_bytes
laid-float at i xs d l {l₁} h k p =
    let b = le_bytes 8 (to_bits binary64 (get_or xs i d)) in
    let n = length-le_bytes 8 (to_bits binary64 (get_or xs i d)) in
    let e : at + 8 * i + 8 ≡ at + 8 * (i + 1) = omega arith in
    let q = p ∙ laid-inside (at + 8 * i) b l (omega arith) in
    ap (λ (r : List Float). laid (at + 8 * i) (float_bytes r) l) (drop-cons xs i d k)
    ∙ sym (laid-laid (at + 8 * i) b (float_bytes (drop (suc i) xs)) l (omega arith))
    ∙ simp (length-le_bytes, q, e, add-one)

pub laid_end : (at i : ℕ) (xs : List Float) (l : List ℕ) → i ≡ length xs → laid (at + 8 * i) (float_bytes (drop i xs)) l ≡ l
unfolding float_bytes
laid_end at i xs l e = simp (e, drop-length, laid_nil)

-- ---- read

-- an array that a closure made, which keeps what it holds: what a call gives is at each place
module _ {F B : Type 0} (g : Mut F (ℕ × Unit {0}) B) (P : ℕ → B → Type 0) (f : F)
    (step : (i : ℕ) (y : B) (q : F) → Called g f (i, tt) y q → P i y × (q ≡ f)) (ys : List B) (d : B) where
  each-from : (n i : ℕ) → IsFromFnResultFrom g f ys i n → (k : ℕ) → i ≤ k → k < i + n → P k (get_or ys k d)
  each-from zero i h k a b = absurd (omega arith)
  each-from (suc n) i h k a b =
      let s = step i h.1 h.0 h.3 in
      let r : IsFromFnResultFrom g f ys (i + 1) n = subst (λ (q : F). IsFromFnResultFrom g q ys (i + 1) n) s.1 h.4 in
      go (eqb i k) refl (subst (P i) (sym (h.2.1 d)) s.0) (each-from n (i + 1) r k)
    where
      go : (t : Bool) → eqb i k ≡ t → P i (get_or ys i d) → (i + 1 ≤ k → k < i + 1 + n → P k (get_or ys k d)) → P k (get_or ys k d)
      go true u p r = subst (λ (j : ℕ). P j (get_or ys j d)) (eqb-true _ _ u) p
      go false u p r = let e = eqb-false _ _ u in r (omega arith) (omega arith)

  pub made-each : (n : ℕ) → IsFromFnResult g f ys n → (k : ℕ) → k < n → P k (get_or ys k d)
  made-each n h k a = each-from n 0 h.each k (omega arith) (omega arith)

-- floats that are each read at their place
pub floats-of : (n at : ℕ) (s : List ℕ) (xs : List Float) → length xs ≡ n → ((i : ℕ) → i < n → get_or xs i nan ≡ float_at (at + 8 * i) s) → xs ≡ floats n at s
unfolding floats
floats-of zero at s [] l h = refl
floats-of zero at s (x ∷ xs) l h = absurd (omega arith)
floats-of (suc n) at s [] l h = absurd (omega arith)
floats-of (suc n) at s (x ∷ xs) l h =
    let e : x ≡ float_at at s = h 0 (omega arith) ∙ simp (mul-zero, add-zero) in
    let next : (i : ℕ) → i < n → get_or xs i nan ≡ float_at (at + 8 + 8 * i) s =
    λ i k. let j : at + 8 * suc i ≡ at + 8 + 8 * i = omega arith in h (suc i) (omega arith) ∙ ap (λ (p : ℕ). float_at p s) j in
    ap (λ (y : Float). y ∷ xs) e ∙ ap (λ (r : List Float). float_at at s ∷ r) (floats-of n (at + 8) s xs (omega arith) next)

-- ---- what was written is read back

float_back : (at : ℕ) (x : Float) (before after : List ℕ) → length before ≡ at → T (fits binary64 x)
    → float_at at (before ++ (le_bytes 8 (to_bits binary64 x) ++ after)) ≡ x
unfolding float_at
float_back at x before after n h =
    let b = le_bytes 8 (to_bits binary64 x) in
    let i : at + 8 ≤ length (before ++ (b ++ after)) = simp (length-append, length-le_bytes) (omega arith) in
    ap (of_bits binary64) (word-inside at (before ++ (b ++ after)) i ∙ ap (le 8) (drop_at before (b ++ after) at n)
    ∙ le-le_bytes 8 (to_bits binary64 x) after (to_bits-lt binary64 x h))
    ∙ of_bits-to_bits binary64 x h

pub floats-back : (at : ℕ) (xs : List Float) (before after : List ℕ) → length before ≡ at → Held xs
    → floats (length xs) at (before ++ (float_bytes xs ++ after)) ≡ xs
unfolding floats float_bytes
floats-back at [] before after n h = refl
floats-back at (x ∷ xs) before after n h =
    let b = le_bytes 8 (to_bits binary64 x) in
    let e : before ++ (b ++ float_bytes xs ++ after) ≡ before ++ (b ++ (float_bytes xs ++ after)) = simp append_assoc in
    let f : before ++ (b ++ float_bytes xs ++ after) ≡ (before ++ b) ++ (float_bytes xs ++ after) = simp append_assoc in
    let m : length (before ++ b) ≡ at + 8 = simp (length-append, length-le_bytes) (omega arith) in
    ap (λ (l : List ℕ). float_at at l ∷ floats (length xs) (at + 8) l) e
    ∙ ap (λ (y : Float). y ∷ floats (length xs) (at + 8) (before ++ (b ++ (float_bytes xs ++ after)))) (float_back at x before (float_bytes xs ++ after) n h.0)
    ∙ ap (λ (l : List ℕ). x ∷ floats (length xs) (at + 8) l) (sym e ∙ f)
    ∙ ap (λ (r : List Float). x ∷ r) (floats-back (at + 8) xs (before ++ b) after m h.1)
