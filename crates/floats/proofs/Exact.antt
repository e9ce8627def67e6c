-- Where a rounded operation is exact: a fraction of a numerator below 2 ^ 53 and a power of two rounds to itself, and one of a unit or more rounds to no
-- zero. And what the comparisons of zeros, of magnitudes and of numbers that are no NaN say. Assumes nothing.
use mathlib.Core.Path.{◌≡◌, refl, sym, ap, ap₂, ◌∙◌, subst}
use Prim.Native.Nat.{ℕ, zero, suc, ◌+◌, ◌-◌, ◌*◌, ◌/◌, ◌%◌, ◌^◌, ◌≤◌, ◌<◌, compare}
use native.Mathlib.Nat.{le_trans, le_of_eq, lt_of_lt_of_le, lt_of_le_of_lt, lt_of_not-le, le_of_suc-le-suc, not-le_of_lt, lt_irrefl, mul_assoc, mul-le-mul_right, mul-pos, zero-mul, mul-one, one-mul, sub-add_cancel, add_comm, le-div_iff_mul-le, div-div-eq-div-mul}
use native.Mathlib.Omega.{arith}
use mathlib.Core.Bool.{Bool, true, false, not, ◌&&◌, cond, ◌||◌}
use lib.IntN.{ℤ, pos, negsuc}
use lib.Dec.{T, leb, ltb, eqb, leb→le, ltb→lt, eqb→eq, lit<, lit≤}
use lib.Pow.{pow-add, pow_pos, pow_mono, pow-lt, shl_lt}
use lib.Ieee.{Float, nan, inf, fin, binary64, up, down, size, nearest, odd, units, round, fits, below, lt, le, eq, is_nan}
use lib.Ieee.Digits.{size-lt, size_reaches}
use lib.Ieee.Fits.{up_pos, down_pos, and_l, and_r, round_is}
use lib.Ieee.Exact.{HasValue, round_exact, odd_sign}
use lib.Ieee.Nearest.{nearest-ge}
use lib.Ieee.Positive.{first_pos}
use borrow.Author.Tests.{leb-true, leb-false, ltb-true, ltb-false, lt-leb, ne_eqb}
use Rattle.floats.specs.Value.{at_most, is_zero}
use Rattle.floats.proofs.Values.{signed_le, le-fin, none-pos, zero-iff, zero_test, own}

-- ---- exact
pow-inv : (a b : ℕ) → 2 ^ a ≤ 2 ^ b → a ≤ b
pow-inv a b h = le_of_suc-le-suc (lt_of_not-le (λ (g : b < a). not-le_of_lt (pow-lt g) h))

pub dyadic : (s : Bool) (N d : ℕ) → N < 2 ^ 53 → d ≤ 1074 → HasValue (round binary64 s N (2 ^ d)) s N (2 ^ d)
dyadic s N d small h =
    round_exact binary64 s N (2 ^ d) N (1074 - d) (pow_pos d) small
    (lt_of_lt_of_le (shl_lt 53 (1074 - d) small) (pow_mono (room d)))
    (ap (λ (x : ℕ). N * x) (ap (λ (x : ℕ). 2 ^ x) (sym (sub-add_cancel h)) ∙ pow-add 2 (1074 - d) d) ∙ sym (mul_assoc N (2 ^ (1074 - d)) (2 ^ d)))
  where
    room : (d : ℕ) → 53 + (1074 - d) ≤ 1074 + suc 1023
    room d = omega arith

-- the same with a denominator as an operation has it
pub exact : (s : Bool) (N : ℕ) (e : ℤ) → N < 2 ^ 53 → down e ≤ 2 ^ 1074 → HasValue (round binary64 s N (down e * 1)) s N (down e * 1)
exact s N (pos k) small h = dyadic s N 0 small (lit≤ tt)
exact s N (negsuc k) small h = subst (λ (D : ℕ). HasValue (round binary64 s N D) s N D) (sym (mul-one (2 ^ suc k))) (dyadic s N (suc k) small (pow-inv (suc k) 1074 h))

-- ---- not zero
abbrev pub Big : Float → Bool → Type 0
Big nan s = ⊥
Big (inf t) s = t ≡ s
Big (fin t m e) s = (t ≡ s) × (0 < m)

pub big-of-value : (x : Float) (s : Bool) (a c : ℕ) → HasValue x s a c → 0 < a → Big x s
big-of-value nan s a c v A = elim v [ ]
big-of-value (inf _) s a c v A = elim v [ ]
big-of-value (fin t m e) s a c v A = (v.0, first_pos m (up e) (first_pos (m * up e) c (subst (λ (z : ℕ). 0 < z) (sym v.1) (mul-pos A (down_pos e)))))

units-big : (s : Bool) (q k : ℕ) → 0 < q → Big (units binary64 s q k) s
unfolding units
units-big s q k Q = go (ltb (q * 2 ^ k) (2 ^ 2098))
  where
    go : (b : Bool) → Big (cond b (odd 54 s q k 1074) (inf s)) s
    go true = big-of-value (odd 54 s q k 1074) s (q * 2 ^ k) (2 ^ 1074) (odd_sign 54 s q k 1074) (mul-pos Q (pow_pos k))
    go false = refl

less : (z : ℕ) → 0 < z → z - 53 < z
less z h = omega arith

pub rounded-big : (s : Bool) (num den : ℕ) → 0 < den → den ≤ num * 2 ^ 1074 → Big (round binary64 s num den) s
rounded-big s num den D h =
    let n = num * 2 ^ 1074 in
    let w = n / den in
    let k = size w - 53 in
    let one : 1 ≤ w = (le-div_iff_mul-le D).1 (le_trans (le_of_eq (one-mul den)) h) in
    let z : 0 < size w = lt_of_not-le (λ (g : size w ≤ 0). not-le_of_lt (lt_of_lt_of_le (size-lt w) (pow_mono g)) one) in
    let r : 2 ^ k ≤ w = size_reaches w k (less (size w) z) in
    let q : 1 ≤ n / (den * 2 ^ k) = le_trans ((le-div_iff_mul-le (pow_pos k)).1 (le_trans (le_of_eq (one-mul (2 ^ k))) r)) (le_of_eq (div-div-eq-div-mul n den (2 ^ k))) in
    subst (λ (x : Float). Big x s) (sym (round_is binary64 s num den))
    (units-big s (nearest (n / (den * 2 ^ k)) (compare (n % (den * 2 ^ k) * 2) (den * 2 ^ k))) k (le_trans q (nearest-ge (n / (den * 2 ^ k)) (compare (n % (den * 2 ^ k) * 2) (den * 2 ^ k)))))

-- a value that is not negative is not at most one below zero; one above zero is not at most a value that is not above it
pub not-le-below : (x y : Float) (a c : ℕ) → HasValue x false a c → Big y true → le x y ≡ false
unfolding le
not-le-below nan y a c v w = elim v [ ]
not-le-below (inf _) y a c v w = elim v [ ]
not-le-below (fin s m e) nan a c v w = elim w [ ]
not-le-below (fin s m e) (inf t) a c v w = ap (λ (z : Bool). not z || false) w
not-le-below (fin s m e) (fin t n d) a c v w =
    le-fin s m e t n d
    ∙ ap₂ (λ (x y : Bool). signed_le x (m * up e * down d) y (n * up d * down e)) v.0 w.0
    ∙ lt-leb (m * up e * down d + n * up d * down e) 0 (omega (arith, mul-pos (mul-pos w.1 (up_pos d)) (down_pos e)))

pub above-not-le : (y x : Float) (s : Bool) (a c : ℕ) → 0 < c → HasValue x s a c → (s ≡ false → a ≡ 0) → Big y false → le y x ≡ false
unfolding le
above-not-le nan _ s' a c C v z w = elim w [ ]
above-not-le (inf t) nan s' a c C v z w = elim v [ ]
above-not-le (inf t) (inf _) s' a c C v z w = elim v [ ]
above-not-le (fin t n d) nan s' a c C v z w = elim v [ ]
above-not-le (fin t n d) (inf _) s' a c C v z w = elim v [ ]
above-not-le (inf t) (fin s m e) s' a c C v z w = ap (λ (u : Bool). u || false) w
above-not-le (fin t n d) (fin s m e) s' a c C v z w =
    le-fin t n d s m e
    ∙ ap (λ (u : Bool). signed_le u (n * up d * down e) s (m * up e * down d)) w.0
    ∙ go s v.0
  where
    go : (b : Bool) → b ≡ s' → signed_le false (n * up d * down e) b (m * up e * down d) ≡ false
    go true q = lt-leb (n * up d * down e + m * up e * down d) 0 (omega (arith, mul-pos (mul-pos w.1 (up_pos d)) (down_pos e)))
    go false q =
        let p : m * up e ≡ 0 = none-pos (m * up e) c a (down e) C v.1 (z (sym q)) in
        lt-leb (n * up d * down e) (m * up e * down d) (omega (arith, ap (λ (u : ℕ). u * down d) p ∙ zero-mul (down d), mul-pos (mul-pos w.1 (up_pos d)) (down_pos e)))

pub big-not-zero : (y : Float) (s : Bool) → Big y s → eq y (fin false 0 (pos 0)) ≡ false
unfolding eq
big-not-zero nan s w = elim w [ ]
big-not-zero (inf t) s w = refl
big-not-zero (fin t m e) s w = unfold eq in (zero_test (fin t m e) t (m * up e) (down e) (down_pos e) (refl, refl) ∙ ne_eqb (m * up e) 0 (λ (h : m * up e ≡ 0). lt_irrefl 0 (subst (λ (z : ℕ). 0 < z) h (mul-pos w.1 (up_pos e)))))

-- ---- what a float of binary64 has
fits-says : (s : Bool) (m : ℕ) (e : ℤ) → T (fits binary64 (fin s (suc m) e)) → (suc m < 2 ^ 53) × (down e ≤ 2 ^ 1074)
unfolding fits
fits-says s m e t =
    let a : Bool = eqb (suc m % 2) 1 in
    let b : Bool = ltb (suc m) (2 ^ 53) in
    let c : Bool = leb (down e) (2 ^ 1074) in
    let d : Bool = ltb (suc m * up e) (2 ^ 1024 * down e) in
    (ltb→lt (suc m) (2 ^ 53) (and_r a b (and_l (a && b) c (and_l (a && b && c) d t))), leb→le (down e) (2 ^ 1074) (and_r (a && b) c (and_l (a && b && c) d t)))

zero-flat : (s : Bool) (e : ℤ) → T (fits binary64 (fin s zero e)) → up e * down e ≡ 1
unfolding fits
zero-flat s e t = eqb→eq (up e * down e) 1 t

pub fits-down : (s : Bool) (m : ℕ) (e : ℤ) → T (fits binary64 (fin s m e)) → down e ≤ 2 ^ 1074
fits-down s zero e t = le_trans (le_trans (le_of_eq (sym (one-mul (down e)))) (le_trans (mul-le-mul_right (down e) (up_pos e)) (le_of_eq (zero-flat s e t)))) (lit≤ tt)
fits-down s (suc m) e t = (fits-says s m e t).1

-- a float that is below 2 ^ 53 in size has a numerator below it too
pub fits-num : (n : ℕ) (s : Bool) (m : ℕ) (e : ℤ) → n < 2 ^ 53 → T (fits binary64 (fin s m e)) → T (at_most n (fin s m e)) → m * up e < 2 ^ 53
fits-num n s zero e l t h = lt_of_le_of_lt (le_of_eq (zero-mul (up e))) (lit< tt)
fits-num n s (suc m) (pos k) l t h = lt_of_le_of_lt (le_trans (leb→le (suc m * 2 ^ k) (n * 1) h) (le_of_eq (mul-one n))) l
fits-num n s (suc m) (negsuc k) l t h = lt_of_le_of_lt (le_of_eq (mul-one (suc m))) (fits-says s m (negsuc k) t).0

-- ---- a zero, by the comparison
pub is-zero : (x : Float) → eq x (fin false 0 (pos 0)) ≡ is_zero x
unfolding eq
is-zero nan = refl
is-zero (inf s) = refl
is-zero (fin s m e) = unfold eq in (zero_test (fin s m e) s (m * up e) (down e) (down_pos e) (own s m e) ∙ zero-iff (m * up e) 1 m (up e) (lit< tt) (up_pos e) (mul-one (m * up e)))

-- ---- comparisons
leb-not : (a b : ℕ) → leb a b ≡ not (ltb b a)
leb-not a b = go (leb a b) (ltb b a) refl refl
  where
    go : (x y : Bool) → leb a b ≡ x → ltb b a ≡ y → x ≡ not y
    go true true p q = absurd (omega (arith, leb-true a b p, ltb-true b a q))
    go true false p q = refl
    go false true p q = refl
    go false false p q = absurd (omega (arith, leb-false a b p, ltb-false b a q))

-- of two numbers that are no NaN, the one is not below the other exactly if the other is at most the one
pub not-lt : (x y : Float) → T (not (is_nan x)) → T (not (is_nan y)) → not (lt x y) ≡ le y x
unfolding lt eq le is_nan
not-lt nan y p q = elim p [ ]
not-lt (inf false) nan p q = elim q [ ]
not-lt (inf true) nan p q = elim q [ ]
not-lt (fin s m e) nan p q = elim q [ ]
not-lt (inf true) (inf true) p q = refl
not-lt (inf true) (inf false) p q = refl
not-lt (inf false) (inf true) p q = refl
not-lt (inf false) (inf false) p q = refl
not-lt (inf true) (fin t n d) p q = refl
not-lt (inf false) (fin t n d) p q = refl
not-lt (fin s m e) (inf true) p q = refl
not-lt (fin s m e) (inf false) p q = refl
not-lt (fin s m e) (fin t n d) p q = go s t (m * up e * down d) (n * up d * down e) ∙ sym (le-fin t n d s m e)
  where
    swap : (a b : ℕ) → not (ltb 0 (a + b)) ≡ leb (b + a) 0
    swap a b = sym (leb-not (a + b) 0) ∙ ap (λ (z : ℕ). leb z 0) (add_comm a b)

    go : (s t : Bool) (a b : ℕ) → not (below s a t b) ≡ signed_le t b s a
    go false false a b = sym (leb-not b a)
    go false true a b = refl
    go true false a b = swap a b
    go true true a b = sym (leb-not a b)
