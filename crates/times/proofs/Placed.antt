-- Times that are multiples of 720: their numbers, the next one, and the test whether one more step is due. Assumes nothing.
use mathlib.Core.Path.{◌≡◌, refl, sym, ap, ap₂, ◌∙◌, subst}
use Prim.Native.Nat.{ℕ, zero, suc, ◌+◌, ◌-◌, ◌*◌, ◌/◌, ◌%◌, ◌^◌, ◌≤◌, ◌<◌, zero-le, compare}
use native.Mathlib.Nat.{le_trans, le_of_eq, lt_of_le_of_lt, not-le_of_lt, mul_comm, mul_assoc, mul-le-mul_right, mul-pos, zero-mul, add-mul, mul-one, one-mul, le-div_iff_mul-le, div-eq_of_lt, mul-div_cancel, suc-mul, mul-suc, sub-le, sub-eq-zero_of_le}
use native.Mathlib.Omega.{arith}
use mathlib.Core.Bool.{Bool, true, false, not, ◌&&◌, cond, beq, true≢false, false≢true}
use lib.IntN.{ℤ, pos}
use lib.Dec.{T, leb, ltb, eqb, lit<, lit≤}
use lib.Ieee.{Float, nan, inf, fin, binary64, up, down, size, nearest, odd, units, round, sum, add, sub, neg, fits, le, lt, eq, rem, is_nan}
use lib.Ieee.Fits.{down_pos, core, round_is, round-fits}
use lib.Ieee.Exact.{HasValue, odd_sign}
use lib.Ieee.Back.{round_whole, whole_unique}
use lib.Ieee.Scale.{finite, round_same}
use borrow.Author.Tests.{ltb-true, ltb-false, lt-ltb, le-ltb, le-leb, lt-leb, ne_eqb, not-true}
use Rattle.floats.proofs.Values.{same-le, signed_le, le-values, zero_test}
use Rattle.floats.proofs.Exact.{exact, Big, rounded-big, not-le-below, above-not-le, big-not-zero, fits-down, fits-num, is-zero, not-lt}
use Rattle.floats.specs.Rounded.{◌⊕◌, dec}
use Rattle.floats.specs.Value.{at_most, negative, is_zero}
use Rattle.std.specs.declared.cmp.Ordering.TheVariants.{Less, Equal, Greater}
use Rattle.times.proofs.Compared.{and-comm}
use Rattle.times.specs.Time.{limit, number, multiple, placed, back, ordering, goes_on, due, delta, time_of}

-- ---- a multiple of 720, by the remainder
pub multiple-is : (x : Float) → T (fits binary64 x) → eq (rem binary64 x (fin false 45 (pos 4))) (fin false 0 (pos 0)) ≡ multiple x
unfolding rem eq
multiple-is nan t = refl
multiple-is (inf s) t = refl
multiple-is (fin s m e) t = ap (λ (z : ℕ). eq (round binary64 s (z % (720 * down e)) (down e * 1)) (fin false 0 (pos 0))) (mul-one (m * up e)) ∙ go (m * up e % (720 * down e))
  where
    go : (R : ℕ) → eq (round binary64 s R (down e * 1)) (fin false 0 (pos 0)) ≡ eqb R 0
    go zero = zero_test (round binary64 s 0 (down e * 1)) s 0 (down e * 1) (mul-pos (down_pos e) (lit< tt)) (exact s 0 e (lit< tt) (fits-down s m e t))
    go (suc R) =
        big-not-zero (round binary64 s (suc R) (down e * 1)) s
        (rounded-big s (suc R) (down e * 1) (mul-pos (down_pos e) (lit< tt))
        (le_trans (le_of_eq (mul-one (down e))) (le_trans (fits-down s m e t) (le_trans (le_of_eq (sym (one-mul (2 ^ 1074)))) (mul-le-mul_right (2 ^ 1074) (one-le R))))))
        ∙ sym (ne_eqb (suc R) 0 (λ (h : suc R ≡ 0). omega arith))
      where
        one-le : (R : ℕ) → 1 ≤ suc R
        one-le R = omega arith

-- ---- -0.0, by a comparison with 0 and the sign bit
pub minus-zero : (x : Float) (n : Bool) → n ≡ negative x → (eq x (fin false 0 (pos 0)) && n) ≡ (negative x && is_zero x)
minus-zero x n p = ap₂ (λ (a b : Bool). a && b) (is-zero x) p ∙ and-comm (is_zero x) (negative x)

pub placed-finite : (x : Float) → T (placed x) → T (finite x)
placed-finite nan t = t
placed-finite (inf s) t = t
placed-finite (fin s m e) t = tt

-- ---- the time of the i-th state, back or forward: ±720 i, and +0.0 at 0
abbrev pub sign_of : Bool → ℕ → Bool
sign_of b zero = false
sign_of b (suc i) = b

abbrev pub At : Bool → ℕ → Float → Type 0
At b i x = HasValue x (sign_of b i) (720 * i) 1

-- the fraction P / D is 720 i
pub at-num : (b : Bool) (i : ℕ) (s : Bool) (m : ℕ) (e : ℤ) → At b i (fin s m e) → m * up e ≡ i * (720 * down e)
at-num b i s m e v = sym (mul-one (m * up e)) ∙ v.1 ∙ ap (λ (z : ℕ). z * down e) (mul_comm 720 i) ∙ mul_assoc i 720 (down e)

pub at-number : (b : Bool) (i : ℕ) (x : Float) → At b i x → number x ≡ i
at-number b i nan v = elim v [ ]
at-number b i (inf _) v = elim v [ ]
at-number b i (fin s m e) v = ap (λ (z : ℕ). z / (720 * down e)) (at-num b i s m e v) ∙ mul-div_cancel i (mul-pos (lit< tt) (down_pos e))

-- ---- the test: with P = |t| D
step-nat : (P D i : ℕ) → 0 < D → 720 * D ≤ P * 1 → leb (720 * i * (D * 1)) ((P * 1 - 720 * D) * 1) ≡ ltb i (P / (720 * D))
step-nat P D i d h =
    let p : 720 * i * (D * 1) ≡ i * (720 * D) = ap (λ (z : ℕ). 720 * i * z) (mul-one D) ∙ ap (λ (z : ℕ). z * D) (mul_comm 720 i) ∙ mul_assoc i 720 D in
    let q : (P * 1 - 720 * D) * 1 ≡ P - 720 * D = mul-one (P * 1 - 720 * D) ∙ ap (λ (z : ℕ). z - 720 * D) (mul-one P) in
    let r : 720 * D ≤ P = le_trans h (le_of_eq (mul-one P)) in
    let u : 0 < 720 * D = mul-pos (lit< tt) d in
    ap₂ (λ (x y : ℕ). leb x y) p q
    ∙ same-le (i * (720 * D)) (P - 720 * D) (suc i) (P / (720 * D))
    (λ (g : i * (720 * D) ≤ P - 720 * D). (le-div_iff_mul-le u).1 (le_trans (le_of_eq (suc-mul i (720 * D))) (over (i * (720 * D)) (720 * D) P r g)))
    (λ (g : suc i ≤ P / (720 * D)). under (i * (720 * D)) (720 * D) P (le_trans (le_of_eq (sym (suc-mul i (720 * D)))) ((le-div_iff_mul-le u).0 g)))
  where
    over : (a b c : ℕ) → b ≤ c → a ≤ c - b → a + b ≤ c
    over a b c h g = omega arith

    under : (a b c : ℕ) → a + b ≤ c → a ≤ c - b
    under a b c h = omega arith

-- below 720
none-nat : (P D i : ℕ) → P * 1 < 720 * D → ltb i (P / (720 * D)) ≡ false
none-nat P D i h = le-ltb i (P / (720 * D)) (le_trans (le_of_eq (div-eq_of_lt (lt_of_le_of_lt (le_of_eq (sym (mul-one P))) h))) zero-le)

unit : (P D : ℕ) → D ≤ 2 ^ 1074 → 0 < P → D * 1 ≤ P * 2 ^ 1074
unit P D h p = le_trans (le_of_eq (mul-one D)) (le_trans h (le_trans (le_of_eq (sym (one-mul (2 ^ 1074)))) (mul-le-mul_right (2 ^ 1074) p)))

gap : (a b : ℕ) → a < b → 0 < b - a
gap a b h = omega arith

pub sign-ahead : (i : ℕ) → sign_of false i ≡ false
sign-ahead zero = refl
sign-ahead (suc i) = refl

one-den : (e : ℤ) → 0 < down e * 1
one-den e = mul-pos (down_pos e) (lit< tt)

-- the difference of |t| and 720, where |t| is the larger, has a numerator that a significand holds
small : (s : Bool) (m : ℕ) (e : ℤ) → T (fits binary64 (fin s m e)) → T (at_most limit (fin s m e)) → m * up e * 1 - 720 * down e < 2 ^ 53
small s m e t h = lt_of_le_of_lt (sub-le (m * up e * 1) (720 * down e)) (lt_of_le_of_lt (le_of_eq (mul-one (m * up e))) (fits-num limit s m e (lit< tt) t h))

-- the difference, where 720 is the larger, rounds to no zero
rest-big : (b s : Bool) (m : ℕ) (e : ℤ) → T (fits binary64 (fin s m e)) → m * up e * 1 < 720 * down e → Big (round binary64 b (720 * down e - m * up e * 1) (down e * 1)) b
rest-big b s m e t l = rounded-big b (720 * down e - m * up e * 1) (down e * 1) (one-den e) (unit (720 * down e - m * up e * 1) (down e) (fits-down s m e t) (gap (m * up e * 1) (720 * down e) l))

-- going forward: t - 720 >= x
ahead : (i : ℕ) (x : Float) (m : ℕ) (e : ℤ) → T (fits binary64 (fin false m e)) → T (at_most limit (fin false m e)) → At false i x
    → le x (sum binary64 false (m * up e * 1) true (720 * down e) (down e * 1)) ≡ ltb i (m * up e / (720 * down e))
unfolding sum
ahead i x m e t h v = go (ltb (m * up e * 1) (720 * down e)) refl
  where
    w : HasValue x false (720 * i) 1
    w = subst (λ (b : Bool). HasValue x b (720 * i) 1) (sign-ahead i) v

    go : (b : Bool) → ltb (m * up e * 1) (720 * down e) ≡ b → le x (cond b (round binary64 true (720 * down e - m * up e * 1) (down e * 1)) (round binary64 false (m * up e * 1 - 720 * down e) (down e * 1))) ≡ ltb i (m * up e / (720 * down e))
    go true p =
        let l : m * up e * 1 < 720 * down e = ltb-true (m * up e * 1) (720 * down e) p in
        not-le-below x (round binary64 true (720 * down e - m * up e * 1) (down e * 1)) (720 * i) 1 w (rest-big true false m e t l) ∙ sym (none-nat (m * up e) (down e) i l)
    go false p =
        le-values x (round binary64 false (m * up e * 1 - 720 * down e) (down e * 1)) false (720 * i) 1 false (m * up e * 1 - 720 * down e) (down e * 1) (lit< tt) (one-den e) w
        (exact false (m * up e * 1 - 720 * down e) e (small false m e t h) (fits-down false m e t))
        ∙ step-nat (m * up e) (down e) i (down_pos e) (ltb-false (m * up e * 1) (720 * down e) p)

not-ahead : (i : ℕ) → sign_of true i ≡ false → 720 * i ≡ 0
not-ahead zero p = refl
not-ahead (suc i) p = absurd (true≢false p)

-- going back: t + 720 <= x
behind : (i : ℕ) (x : Float) (m : ℕ) (e : ℤ) → T (fits binary64 (fin true m e)) → T (at_most limit (fin true m e)) → At true i x
    → le (sum binary64 true (m * up e * 1) false (720 * down e) (down e * 1)) x ≡ ltb i (m * up e / (720 * down e))
unfolding sum
behind i x m e t h v = go (ltb (m * up e * 1) (720 * down e)) (ltb (720 * down e) (m * up e * 1)) refl refl i v
  where
    above : (i : ℕ) → 0 < suc i
    above i = omega arith

    there : (b : Bool) (i : ℕ) → At true i x
        → le (round binary64 b (m * up e * 1 - 720 * down e) (down e * 1)) x ≡ signed_le b ((m * up e * 1 - 720 * down e) * 1) (sign_of true i) (720 * i * (down e * 1))
    there b i v =
        le-values (round binary64 b (m * up e * 1 - 720 * down e) (down e * 1)) x b (m * up e * 1 - 720 * down e) (down e * 1) (sign_of true i) (720 * i) 1 (one-den e) (lit< tt)
        (exact b (m * up e * 1 - 720 * down e) e (small true m e t h) (fits-down true m e t)) v

    reaches : 720 * down e ≤ m * up e * 1 → true ≡ ltb 0 (m * up e / (720 * down e))
    reaches l = sym (lt-ltb 0 (m * up e / (720 * down e)) ((le-div_iff_mul-le (mul-pos (lit< tt) (down_pos e))).1 (le_trans (le_of_eq (one-mul (720 * down e))) (le_trans l (le_of_eq (mul-one (m * up e)))))))

    none : ltb (720 * down e) (m * up e * 1) ≡ false → (m * up e * 1 - 720 * down e) * 1 ≡ 0
    none q = mul-one (m * up e * 1 - 720 * down e) ∙ sub-eq-zero_of_le (ltb-false (720 * down e) (m * up e * 1) q)

    go : (b c : Bool) → ltb (m * up e * 1) (720 * down e) ≡ b → ltb (720 * down e) (m * up e * 1) ≡ c → (i : ℕ) → At true i x
        → le (cond b (round binary64 false (720 * down e - m * up e * 1) (down e * 1)) (round binary64 (true && c) (m * up e * 1 - 720 * down e) (down e * 1))) x ≡ ltb i (m * up e / (720 * down e))
    go true c p q i v =
        let l : m * up e * 1 < 720 * down e = ltb-true (m * up e * 1) (720 * down e) p in
        above-not-le (round binary64 false (720 * down e - m * up e * 1) (down e * 1)) x (sign_of true i) (720 * i) 1 (lit< tt) v (not-ahead i) (rest-big false true m e t l)
        ∙ sym (none-nat (m * up e) (down e) i l)
    go false true p q zero v = there true zero v ∙ reaches (ltb-false (m * up e * 1) (720 * down e) p)
    go false true p q (suc i) v = there true (suc i) v ∙ step-nat (m * up e) (down e) (suc i) (down_pos e) (ltb-false (m * up e * 1) (720 * down e) p)
    go false false p q zero v =
        there false zero v
        ∙ le-leb ((m * up e * 1 - 720 * down e) * 1) (0 * (down e * 1)) (le_trans (le_of_eq (none q)) zero-le)
        ∙ reaches (ltb-false (m * up e * 1) (720 * down e) p)
    go false false p q (suc i) v =
        let k : 0 < 720 * suc i * (down e * 1) = mul-pos (mul-pos (lit< tt) (above i)) (one-den e) in
        there false (suc i) v
        ∙ lt-leb ((m * up e * 1 - 720 * down e) * 1 + 720 * suc i * (down e * 1)) 0 (omega arith)
        ∙ sym (lt-leb (720 * suc i * (down e * 1)) ((m * up e * 1 - 720 * down e) * 1) (lt_of_le_of_lt (le_of_eq (none q)) k))
        ∙ step-nat (m * up e) (down e) (suc i) (down_pos e) (ltb-false (m * up e * 1) (720 * down e) p)

-- t is +0.0
still : (i : ℕ) (x : Float) (m : ℕ) (e : ℤ) → T (fits binary64 (fin false m e)) → m * up e ≡ 0 → At true i x
    → le (sum binary64 false (m * up e * 1) false (720 * down e) (down e * 1)) x ≡ ltb i (m * up e / (720 * down e))
unfolding sum
still i x m e t z v =
    above-not-le (round binary64 false (m * up e * 1 + 720 * down e) (down e * 1)) x (sign_of true i) (720 * i) 1 (lit< tt) v (not-ahead i)
    (rounded-big false (m * up e * 1 + 720 * down e) (down e * 1) (one-den e) (unit (m * up e * 1 + 720 * down e) (down e) (fits-down false m e t) (omega (arith, down_pos e))))
    ∙ sym (none-nat (m * up e) (down e) i (lt_of_le_of_lt (le_of_eq (mul-one (m * up e) ∙ z)) (mul-pos (lit< tt) (down_pos e))))

-- ---- the loop's test, by the comparison that document 01 names
no_nan : (x : Float) (s : Bool) (a c : ℕ) → HasValue x s a c → T (not (is_nan x))
unfolding is_nan
no_nan nan s a c v = elim v [ ]
no_nan (inf _) s a c v = elim v [ ]
no_nan (fin t m e) s a c v = tt

round-no-nan : (s : Bool) (num den : ℕ) → T (not (is_nan (round binary64 s num den)))
unfolding is_nan units
round-no-nan s num den = subst (λ (x : Float). T (not (is_nan x))) (sym (round_is binary64 s num den)) (go (size (num * 2 ^ 1074 / den) - 53))
  where
    at : (q k : ℕ) (b : Bool) → T (not (is_nan (cond b (odd 54 s q k 1074) (inf s))))
    at q k true = no_nan (odd 54 s q k 1074) s (q * 2 ^ k) (2 ^ 1074) (odd_sign 54 s q k 1074)
    at q k false = tt

    go : (k : ℕ) → T (not (is_nan (core binary64 s (num * 2 ^ 1074) den k)))
    go k = at (nearest (num * 2 ^ 1074 / (den * 2 ^ k)) (compare (num * 2 ^ 1074 % (den * 2 ^ k) * 2) (den * 2 ^ k))) k
        (ltb (nearest (num * 2 ^ 1074 / (den * 2 ^ k)) (compare (num * 2 ^ 1074 % (den * 2 ^ k) * 2) (den * 2 ^ k)) * 2 ^ k) (2 ^ 2098))

sum-no-nan : (s t : Bool) (a b c : ℕ) → T (not (is_nan (sum binary64 s a t b c)))
unfolding sum
sum-no-nan s t a b c = go (beq s t) (ltb a b)
  where
    go : (x y : Bool) → T (not (is_nan (cond x (round binary64 s (a + b) c) (cond y (round binary64 t (b - a) c) (round binary64 (s && ltb b a) (a - b) c)))))
    go true y = round-no-nan s (a + b) c
    go false true = round-no-nan t (b - a) c
    go false false = round-no-nan (s && ltb b a) (a - b) c

-- forward: s <= x
on-ahead : (x s : Float) → T (not (is_nan x)) → T (not (is_nan s)) → goes_on false (ordering x s) ≡ le s x
on-ahead x s p q = go (lt x s) (lt s x) ∙ not-lt x s p q
  where
    go : (a b : Bool) → goes_on false (cond a Less (cond b Greater Equal)) ≡ not a
    go true b = refl
    go false true = refl
    go false false = refl

-- back: x <= s
on-behind : (x s : Float) → T (not (is_nan x)) → T (not (is_nan s)) → goes_on true (ordering x s) ≡ le x s
on-behind x s p q = go (lt x s) (lt s x) refl refl
  where
    go : (a b : Bool) → lt x s ≡ a → lt s x ≡ b → goes_on true (cond a Less (cond b Greater Equal)) ≡ le x s
    go true b e f = unfold le in rw e
    go false true e f = ap not (sym f) ∙ not-lt s x q p
    go false false e f = ap not (sym f) ∙ not-lt s x q p

-- THE TEST IS EXACT: with the state at ±720 i and t within the limit, one more step is due exactly if i is below the whole part of |t| / 720
pub due-is : (b : Bool) (i : ℕ) (x t : Float) → T (fits binary64 t) → T (at_most limit t) → back t ≡ b → At b i x → due b x t ≡ ltb i (number t)
unfolding due delta back dec add sub neg lt round
due-is false i x nan f h p v = elim h [ ]
due-is false i x (inf _) f h p v = elim h [ ]
due-is true i x nan f h p v = elim h [ ]
due-is true i x (inf _) f h p v = elim h [ ]
due-is false i x (fin true m e) f h p v = absurd (true≢false p)
due-is false i x (fin false m e) f h p v =
    on-ahead (sum binary64 false (m * up e * 1) true (720 * down e) (down e * 1)) x (sum-no-nan false true (m * up e * 1) (720 * down e) (down e * 1)) (no_nan x (sign_of false i) (720 * i) 1 v)
    ∙ ahead i x m e f h v
due-is true i x (fin true m e) f h p v =
    on-behind (sum binary64 true (m * up e * 1) false (720 * down e) (down e * 1)) x (sum-no-nan true false (m * up e * 1) (720 * down e) (down e * 1)) (no_nan x (sign_of true i) (720 * i) 1 v)
    ∙ behind i x m e f h v
due-is true i x (fin false m e) f h p v =
    on-behind (sum binary64 false (m * up e * 1) false (720 * down e) (down e * 1)) x (sum-no-nan false false (m * up e * 1) (720 * down e) (down e * 1)) (no_nan x (sign_of true i) (720 * i) 1 v)
    ∙ still i x m e f (flat p) v
  where
    flat : not (ltb (0 * down e) (m * up e * 1)) ≡ true → m * up e ≡ 0
    flat q = empty (m * up e) (m * up e * 1) (0 * down e) (sym (mul-one (m * up e))) (zero-mul (down e)) (ltb-false (0 * down e) (m * up e * 1) (not-true (ltb (0 * down e) (m * up e * 1)) q))
      where
        empty : (a b c : ℕ) → a ≡ b → c ≡ 0 → b ≤ c → a ≡ 0
        empty a b c p q r = omega arith

-- ---- the next time is exact
next-val : (s : Bool) (N D i : ℕ) → 0 < D → i < 2 ^ 20 → N ≡ 720 * i * D + 720 * D → HasValue (round binary64 s N (D * 1)) s (720 * suc i) 1
next-val s N D i d h p =
    let q : 720 * suc i * (D * 1) ≡ 720 * i * D + 720 * D = ap (λ (z : ℕ). 720 * suc i * z) (mul-one D) ∙ ap (λ (z : ℕ). z * D) (mul-suc 720 i) ∙ add-mul (720 * i) 720 D in
    subst (λ (z : Float). HasValue z s (720 * suc i) 1)
    (sym (round_same binary64 s N (D * 1) (720 * suc i) 1 (mul-pos d (lit< tt)) (lit< tt) (mul-one N ∙ p ∙ sym q)))
    (round_whole binary64 s (720 * suc i) (le_trans (most i h) (lit≤ tt)))
  where
    most : (i : ℕ) → i < 2 ^ 20 → 720 * suc i ≤ 754974720
    most i h = omega arith

pub at_next : (b : Bool) (i : ℕ) (x : Float) → i < 2 ^ 20 → At b i x → At b (suc i) (x ⊕ delta b)
unfolding delta dec add neg sum round
at_next false i nan h v = elim v [ ]
at_next false i (inf _) h v = elim v [ ]
at_next true zero nan h v = elim v [ ]
at_next true zero (inf _) h v = elim v [ ]
at_next true (suc i) nan h v = elim v [ ]
at_next true (suc i) (inf _) h v = elim v [ ]
at_next false i (fin s m e) h v = go s v.0
  where
    go : (s : Bool) → s ≡ sign_of false i → HasValue (sum binary64 s (m * up e * 1) false (720 * down e) (down e * 1)) false (720 * suc i) 1
    go true p = absurd (true≢false (p ∙ sign-ahead i))
    go false p = next-val false (m * up e * 1 + 720 * down e) (down e) i (down_pos e) h (ap (λ (z : ℕ). z + 720 * down e) v.1)
at_next true zero (fin s m e) h v = go s v.0
  where
    none : m * up e * 1 ≡ 0
    none = v.1 ∙ zero-mul (down e)

    full : (a b : ℕ) → a ≡ 0 → b - a ≡ 0 + b
    full a b p = omega arith

    pick : (b : Bool) → ltb (m * up e * 1) (720 * down e) ≡ b
        → HasValue (cond b (round binary64 true (720 * down e - m * up e * 1) (down e * 1)) (round binary64 (false && ltb (720 * down e) (m * up e * 1)) (m * up e * 1 - 720 * down e) (down e * 1))) true 720 1
    pick true q = next-val true (720 * down e - m * up e * 1) (down e) 0 (down_pos e) h (full (m * up e * 1) (720 * down e) none ∙ ap (λ (z : ℕ). z + 720 * down e) (sym (zero-mul (down e))))
    pick false q = absurd (not-le_of_lt (mul-pos (lit< tt) (down_pos e)) (le_trans (ltb-false (m * up e * 1) (720 * down e) q) (le_of_eq none)))

    go : (s : Bool) → s ≡ false → HasValue (sum binary64 s (m * up e * 1) true (720 * down e) (down e * 1)) true 720 1
    go true p = absurd (true≢false p)
    go false p = pick (ltb (m * up e * 1) (720 * down e)) refl
at_next true (suc i) (fin s m e) h v = go s v.0
  where
    go : (s : Bool) → s ≡ true → HasValue (sum binary64 s (m * up e * 1) true (720 * down e) (down e * 1)) true (720 * suc (suc i)) 1
    go true p = next-val true (m * up e * 1 + 720 * down e) (down e) (suc i) (down_pos e) h (ap (λ (z : ℕ). z + 720 * down e) v.1)
    go false p = absurd (false≢true p)

-- a value of binary64 at ±720 i is that time, bit for bit
pub time-is : (b : Bool) (i : ℕ) (x : Float) → i ≤ 2 ^ 20 → T (fits binary64 x) → At b i x → x ≡ time_of b i
time-is b zero x h f v = whole_unique binary64 x (time_of b 0) false 0 f (unfold fits in tt) v (refl, refl)
time-is b (suc i) x h f v = whole_unique binary64 x (time_of b (suc i)) b (720 * suc i) f (round-fits binary64 b (720 * suc i) 1) v (round_whole binary64 b (720 * suc i) (le_trans (most i h) (lit≤ tt)))
  where
    most : (i : ℕ) → suc i ≤ 2 ^ 20 → 720 * suc i ≤ 754974720
    most i h = omega arith
