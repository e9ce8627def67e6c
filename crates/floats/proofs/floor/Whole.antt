-- What `floor_of` is, by the tests that `floor` makes. x plus 2 ^ 52, with x's sign, has no fraction, so that t, which is that less 2 ^ 52, is the whole number nearest to x.
-- It is at most a half away, so the whole number wanted is t, or one below where t is above x. Assumes nothing.
use mathlib.Core.Path.{◌≡◌, refl, sym, ap, ◌∙◌, subst}
use Prim.Native.Nat.{ℕ, zero, suc, ◌+◌, ◌-◌, ◌*◌, ◌/◌, ◌%◌, ◌^◌, ◌≤◌, ◌<◌}
use native.Mathlib.Nat.{le_trans, le_of_eq, le_of_lt, lt_of_lt_of_le, lt_of_le_of_lt, zero-lt-suc, mul-one, one-mul, mul_assoc, mul_comm, mul_right_comm, mul-pos, mul-lt-mul_of_pos_right, lt_of_mul-lt-mul_right, le_of_mul-le-mul_right, div-one, div-eq_of_lt-le, pow-succ', add-mul, suc-mul, mul-sub, mul-le-mul_right}
use native.Mathlib.Omega.{arith}
use mathlib.Core.Logic.{◌⊎◌, inl, inr}
use mathlib.Core.Bool.{Bool, true, false, not, ◌&&◌, ◌||◌, cond, true≢false, false≢true, beq}
use lib.IntN.{ℤ, pos, negsuc}
use lib.Dec.{T, ltb, leb, eqb, eqb→eq, ltb→lt}
use lib.Pow.{pow-add, pow_pos}
use lib.Ieee.{Float, nan, inf, fin, binary64, up, down, round, add, sub, neg, lt, eq, level, fits}
use lib.Ieee.Fits.{and_l, and_r, up_pos, down_pos, round-fits}
use lib.Ieee.Exact.{HasValue, round_exact}
use lib.Ieee.Scale.{round_same}
use lib.Ieee.Nearest.{closest}
use lib.Ieee.Back.{round_whole, whole_unique}
use borrow.Author.Tests.{ltb-true, ltb-false, lt-ltb, le-ltb}
use Rattle.floats.specs.Rounded.{◌⊕◌, ◌⊖◌, ⊝◌, dec, magnitude}
use Rattle.floats.specs.Floor.{floor_of}
use Rattle.floats.proofs.Rounding.{closest-near, closest-le, closest-ge, round-one}

-- ---- sums of whole numbers

-- both of one sign
add_same : (s : Bool) (m n : ℕ) (e d : ℤ) (q p : ℕ) → m * up e * 1 ≡ q * down e → n * up d * 1 ≡ p * down d → add binary64 (fin s m e) (fin s n d) ≡ round binary64 s (q + p) 1
unfolding add
add_same s m n e d q p v w =
    at s ∙ round_same binary64 s (m * up e * down d + n * up d * down e) (down e * down d) (q + p) 1 (mul-pos (down_pos e) (down_pos d)) (zero-lt-suc 0) (go (m * up e) (n * up d) (down e) (down d) v w)
  where
    at : (s : Bool) → add binary64 (fin s m e) (fin s n d) ≡ round binary64 s (m * up e * down d + n * up d * down e) (down e * down d)
    at true = refl
    at false = refl

    go : (a b c k : ℕ) → a * 1 ≡ q * c → b * 1 ≡ p * k → (a * k + b * c) * 1 ≡ (q + p) * (c * k)
    go a b c k h i =
        let h1 : a * k ≡ q * (c * k) = ap (λ (x : ℕ). x * k) (sym (mul-one a) ∙ h) ∙ mul_assoc q c k in
        let i1 : b * c ≡ p * (c * k) = ap (λ (x : ℕ). x * c) (sym (mul-one b) ∙ i) ∙ mul_right_comm p k c ∙ mul_assoc p c k in
        mul-one (a * k + b * c) ∙ ap (λ (x : ℕ). x + b * c) h1 ∙ ap (λ (x : ℕ). q * (c * k) + x) i1 ∙ sym (add-mul q p (c * k))

-- of different signs: a and b are q and p times c
abbrev apart : Bool → ℕ → ℕ → ℕ → Float
apart s a b c = cond (ltb a b) (round binary64 (not s) (b - a) c) (round binary64 (s && ltb b a) (a - b) c)

both-times : (q p c : ℕ) → q * c - p * c ≡ (q - p) * c
both-times q p c = ap (λ (x : ℕ). x - p * c) (mul_comm q c) ∙ ap (λ (x : ℕ). c * q - x) (mul_comm p c) ∙ sym (mul-sub c q p) ∙ mul_comm c (q - p)

apart-less : (s : Bool) (q p c : ℕ) → 0 < c → p < q → apart s (q * c) (p * c) c ≡ round binary64 s (q - p) 1
apart-less s q p c C h =
    ap (λ (t : Bool). cond t (round binary64 (not s) (p * c - q * c) c) (round binary64 (s && ltb (p * c) (q * c)) (q * c - p * c) c)) (le-ltb (q * c) (p * c) (mul-le-mul_right c (le_of_lt h)))
    ∙ ap (λ (t : Bool). round binary64 (s && t) (q * c - p * c) c) (lt-ltb (p * c) (q * c) (mul-lt-mul_of_pos_right h C))
    ∙ ap (λ (t : Bool). round binary64 t (q * c - p * c) c) (plain s)
    ∙ round_same binary64 s (q * c - p * c) c (q - p) 1 C (zero-lt-suc 0) (mul-one (q * c - p * c) ∙ both-times q p c)
  where
    plain : (s : Bool) → (s && true) ≡ s
    plain true = refl
    plain false = refl

apart-level : (s : Bool) (q c : ℕ) → 0 < c → apart s (q * c) (q * c) c ≡ round binary64 false 0 1
apart-level s q c C =
    ap (λ (t : Bool). cond t (round binary64 (not s) (q * c - q * c) c) (round binary64 (s && t) (q * c - q * c) c)) (le-ltb (q * c) (q * c) (le_of_eq refl))
    ∙ ap (λ (t : Bool). round binary64 t (q * c - q * c) c) (none s)
    ∙ round_same binary64 false (q * c - q * c) c 0 1 C (zero-lt-suc 0) (gone (q * c) c)
  where
    none : (s : Bool) → (s && false) ≡ false
    none true = refl
    none false = refl

    gone : (a c : ℕ) → (a - a) * 1 ≡ 0 * c
    gone a c = omega arith

apart_more : (s : Bool) (q p c : ℕ) → 0 < c → q < p → apart s (q * c) (p * c) c ≡ round binary64 (not s) (p - q) 1
apart_more s q p c C h =
    ap (λ (t : Bool). cond t (round binary64 (not s) (p * c - q * c) c) (round binary64 (s && ltb (p * c) (q * c)) (q * c - p * c) c)) (lt-ltb (q * c) (p * c) (mul-lt-mul_of_pos_right h C))
    ∙ round_same binary64 (not s) (p * c - q * c) c (p - q) 1 C (zero-lt-suc 0) (mul-one (p * c - q * c) ∙ both-times p q c)

add_apart : (s : Bool) (m n : ℕ) (e d : ℤ) (q p : ℕ) → m * up e * 1 ≡ q * down e → n * up d * 1 ≡ p * down d → add binary64 (fin s m e) (fin (not s) n d) ≡ apart s (q * (down e * down d)) (p * (down e * down d)) (down e * down d)
unfolding add
add_apart s m n e d q p v w =
    at s
    ∙ ap (λ (x : ℕ). apart s x (n * up d * down e) (down e * down d)) (ap (λ (x : ℕ). x * down d) (sym (mul-one (m * up e)) ∙ v) ∙ mul_assoc q (down e) (down d))
    ∙ ap (λ (x : ℕ). apart s (q * (down e * down d)) x (down e * down d)) (ap (λ (x : ℕ). x * down e) (sym (mul-one (n * up d)) ∙ w) ∙ mul_right_comm p (down d) (down e) ∙ mul_assoc p (down e) (down d))
  where
    at : (s : Bool) → add binary64 (fin s m e) (fin (not s) n d) ≡ apart s (m * up e * down d) (n * up d * down e) (down e * down d)
    at true = refl
    at false = refl

-- ---- a whole number less another, both as floats of one sign

less-some : (y : Float) (s : Bool) (n : ℕ) (d : ℤ) (q p : ℕ) → HasValue y s q 1 → n * up d * 1 ≡ p * down d → p < q → sub binary64 y (fin s n d) ≡ round binary64 s (q - p) 1
unfolding sub neg
less-some nan s n d q p v w h = absurd v
less-some (inf t) s n d q p v w h = absurd v
less-some (fin t m e) s n d q p v w h =
    ap (λ (k : Bool). add binary64 (fin k m e) (fin (not s) n d)) v.0 ∙ add_apart s m n e d q p v.1 w ∙ apart-less s q p (down e * down d) (mul-pos (down_pos e) (down_pos d)) h

less-all : (y : Float) (s : Bool) (n : ℕ) (d : ℤ) (q : ℕ) → HasValue y s q 1 → n * up d * 1 ≡ q * down d → sub binary64 y (fin s n d) ≡ round binary64 false 0 1
unfolding sub neg
less-all nan s n d q v w = absurd v
less-all (inf t) s n d q v w = absurd v
less-all (fin t m e) s n d q v w =
    ap (λ (k : Bool). add binary64 (fin k m e) (fin (not s) n d)) v.0 ∙ add_apart s m n e d q q v.1 w ∙ apart-level s q (down e * down d) (mul-pos (down_pos e) (down_pos d))

-- 1 less than 0, and than a negative whole number
zero-less-one : (y : Float) → HasValue y false 0 1 → sub binary64 y (fin false 1 (pos 0)) ≡ round binary64 true 1 1
unfolding sub neg
zero-less-one nan v = absurd v
zero-less-one (inf t) v = absurd v
zero-less-one (fin t m e) v =
    ap (λ (k : Bool). add binary64 (fin k m e) (fin true 1 (pos 0))) v.0 ∙ add_apart false m 1 e (pos 0) 0 1 v.1 refl ∙ apart_more false 0 1 (down e * 1) (mul-pos (down_pos e) (zero-lt-suc 0)) (zero-lt-suc 0)

negative-less-one : (y : Float) (q : ℕ) → HasValue y true q 1 → sub binary64 y (fin false 1 (pos 0)) ≡ round binary64 true (q + 1) 1
unfolding sub neg
negative-less-one nan q v = absurd v
negative-less-one (inf t) q v = absurd v
negative-less-one (fin t m e) q v = ap (λ (k : Bool). add binary64 (fin k m e) (fin true 1 (pos 0))) v.0 ∙ add_same true m 1 e (pos 0) q 1 v.1 refl

-- ---- the whole number n nearest to a / d

record Nearest (a d n : ℕ) : Type 0 where
  low : a * 2 ≤ n * d * 2 + d
  high : n * d * 2 ≤ a * 2 + d

abbrev far : Bool → Float
far s = fin s 1 (pos 52)

to-far : (s : Bool) (m : ℕ) (e : ℤ) → add binary64 (fin s m e) (far s) ≡ round binary64 s (m * up e + 2 ^ 52 * down e) (down e)
unfolding add
to-far s m e = at s ∙ ap (λ (x : ℕ). round binary64 s x (down e * 1)) (top (m * up e) (down e)) ∙ ap (λ (x : ℕ). round binary64 s (m * up e + 2 ^ 52 * down e) x) (mul-one (down e))
  where
    at : (s : Bool) → add binary64 (fin s m e) (far s) ≡ round binary64 s (m * up e * 1 + 1 * 2 ^ 52 * down e) (down e * 1)
    at true = refl
    at false = refl

    top : (a d : ℕ) → a * 1 + 1 * 2 ^ 52 * d ≡ a + 2 ^ 52 * d
    top a d = omega arith

module _ (s : Bool) (m : ℕ) (e : ℤ) (small : m * up e < 2 ^ 52 * down e) where
  abbrev a : ℕ
  a = m * up e

  abbrev d : ℕ
  d = down e

  abbrev q : ℕ
  q = closest (a + 2 ^ 52 * d) d

  abbrev n : ℕ
  n = q - 2 ^ 52

  abbrev t : Float
  t = sub binary64 (add binary64 (fin s m e) (far s)) (far s)

  q-ge : 2 ^ 52 ≤ q
  q-ge = closest-ge (a + 2 ^ 52 * d) d (2 ^ 52) (down_pos e) (go a (2 ^ 52 * d))
    where
      go : (x y : ℕ) → y ≤ x + y
      go x y = omega arith

  under : a + 2 ^ 52 * d < 2 ^ 53 * d
  under = go a d small
    where
      go : (x y : ℕ) → x < 2 ^ 52 * y → x + 2 ^ 52 * y < 2 ^ 53 * y
      go x y h = omega arith

  q-le : q ≤ 2 ^ 53
  q-le = closest-le (a + 2 ^ 52 * d) d (2 ^ 53) (down_pos e) under

  n-le : n ≤ 2 ^ 52
  n-le = omega (arith, q-le)

  value : HasValue (add binary64 (fin s m e) (far s)) s q 1
  value = subst (λ (y : Float). HasValue y s q 1) (sym (to-far s m e)) (round-one s (a + 2 ^ 52 * d) d (down_pos e) (go a (2 ^ 52 * d)) under)
    where
      go : (x y : ℕ) → y ≤ x + y
      go x y = omega arith

  near : Nearest a d n
  near =
      let w = closest-near (a + 2 ^ 52 * d) d (down_pos e) in
      let c : q * d ≡ n * d + 2 ^ 52 * d = ap (λ (x : ℕ). x * d) (split q q-ge) ∙ add-mul n (2 ^ 52) d in
      record { low = lo a d (n * d) (q * d) c w.low; high = hi a d (n * d) (q * d) c w.high }
    where
      split : (q : ℕ) → 2 ^ 52 ≤ q → q ≡ q - 2 ^ 52 + 2 ^ 52
      split q h = omega arith

      lo : (a d x y : ℕ) → y ≡ x + 2 ^ 52 * d → (a + 2 ^ 52 * d) * 2 ≤ y * 2 + d → a * 2 ≤ x * 2 + d
      lo a d x y c h = omega arith

      hi : (a d x y : ℕ) → y ≡ x + 2 ^ 52 * d → y * 2 ≤ (a + 2 ^ 52 * d) * 2 + d → x * 2 ≤ a * 2 + d
      hi a d x y c h = omega arith

  t-is : ((0 < n) × (t ≡ round binary64 s n 1)) ⊎ ((n ≡ 0) × (t ≡ round binary64 false 0 1))
  t-is = go (lt-or-eq q q-ge)
    where
      lt-or-eq : (q : ℕ) → 2 ^ 52 ≤ q → (2 ^ 52 < q) ⊎ (q ≡ 2 ^ 52)
      lt-or-eq q h = by (ltb (2 ^ 52) q) refl
        where
          by : (b : Bool) → ltb (2 ^ 52) q ≡ b → (2 ^ 52 < q) ⊎ (q ≡ 2 ^ 52)
          by true k = inl (ltb-true (2 ^ 52) q k)
          by false k = inr (omega (arith, ltb-false (2 ^ 52) q k))

      go : (2 ^ 52 < q) ⊎ (q ≡ 2 ^ 52) → ((0 < n) × (t ≡ round binary64 s n 1)) ⊎ ((n ≡ 0) × (t ≡ round binary64 false 0 1))
      go (inl h) = inl (more q h, less-some (add binary64 (fin s m e) (far s)) s 1 (pos 52) q (2 ^ 52) value refl h)
        where
          more : (q : ℕ) → 2 ^ 52 < q → 0 < q - 2 ^ 52
          more q h = omega arith
      go (inr h) = inr (none q h, less-all (add binary64 (fin s m e) (far s)) s 1 (pos 52) q value (sym (ap (λ (x : ℕ). x * 1) h)))
        where
          none : (q : ℕ) → q ≡ 2 ^ 52 → q - 2 ^ 52 ≡ 0
          none q h = omega arith

-- ---- x against a whole number k, as a float of the same sign

-- k as k' * up / down
module _ (m n : ℕ) (e d : ℤ) (k : ℕ) (v : n * up d * 1 ≡ k * down d) where
  right : n * up d * down e ≡ k * down e * down d
  right = ap (λ (x : ℕ). x * down e) (sym (mul-one (n * up d)) ∙ v) ∙ mul_right_comm k (down d) (down e)

  x-less : m * up e * down d < n * up d * down e → m * up e < k * down e
  x-less h = lt_of_mul-lt-mul_right (down d) (lt_of_lt_of_le h (le_of_eq right))

  x-not-less : n * up d * down e ≤ m * up e * down d → k * down e ≤ m * up e
  x-not-less h = le_of_mul-le-mul_right (le_trans (le_of_eq (sym right)) h) (down_pos d)

  x-more : n * up d * down e < m * up e * down d → k * down e < m * up e
  x-more h = lt_of_mul-lt-mul_right (down d) (lt_of_le_of_lt (le_of_eq (sym right)) h)

  x-not-more : m * up e * down d ≤ n * up d * down e → m * up e ≤ k * down e
  x-not-more h = le_of_mul-le-mul_right (le_trans h (le_of_eq right)) (down_pos d)

above : (m : ℕ) (e : ℤ) (t : Float) (k : ℕ) → HasValue t false k 1 → lt (fin false m e) t ≡ true → m * up e < k * down e
unfolding lt
above m e nan k v h = absurd v
above m e (inf s) k v h = absurd v
above m e (fin true n d) k v h = absurd (true≢false v.0)
above m e (fin false n d) k v h = x-less m n e d k v.1 (ltb-true (m * up e * down d) (n * up d * down e) h)

not_above : (m : ℕ) (e : ℤ) (t : Float) (k : ℕ) → HasValue t false k 1 → lt (fin false m e) t ≡ false → k * down e ≤ m * up e
unfolding lt
not_above m e nan k v h = absurd v
not_above m e (inf s) k v h = absurd v
not_above m e (fin true n d) k v h = absurd (true≢false v.0)
not_above m e (fin false n d) k v h = x-not-less m n e d k v.1 (ltb-false (m * up e * down d) (n * up d * down e) h)

above-negative : (m : ℕ) (e : ℤ) (t : Float) (k : ℕ) → HasValue t true k 1 → lt (fin true m e) t ≡ true → k * down e < m * up e
unfolding lt
above-negative m e nan k v h = absurd v
above-negative m e (inf s) k v h = absurd v
above-negative m e (fin false n d) k v h = absurd (false≢true v.0)
above-negative m e (fin true n d) k v h = x-more m n e d k v.1 (ltb-true (n * up d * down e) (m * up e * down d) h)

not_above_negative : (m : ℕ) (e : ℤ) (t : Float) (k : ℕ) → HasValue t true k 1 → lt (fin true m e) t ≡ false → m * up e ≤ k * down e
unfolding lt
not_above_negative m e nan k v h = absurd v
not_above_negative m e (inf s) k v h = absurd v
not_above_negative m e (fin false n d) k v h = absurd (false≢true v.0)
not_above_negative m e (fin true n d) k v h = x-not-more m n e d k v.1 (ltb-false (n * up d * down e) (m * up e * down d) h)

-- a negative number is below a zero
below-zero : (m : ℕ) (e : ℤ) (t : Float) → HasValue t false 0 1 → lt (fin true (suc m) e) t ≡ false → ⊥
unfolding lt
below-zero m e nan v h = v
below-zero m e (inf s) v h = v
below-zero m e (fin true n d) v h = true≢false v.0
below-zero m e (fin false n d) v h =
    go (suc m * up e * down d) (n * up d * down e) (mul-pos (mul-pos (zero-lt-suc m) (up_pos e)) (down_pos d)) (ltb-false 0 (suc m * up e * down d + n * up d * down e) h)
  where
    go : (a b : ℕ) → 0 < a → a + b ≤ 0 → ⊥
    go a b h i = omega arith

-- ---- the quotient, down and up

cut_below : (a d n : ℕ) → 0 < d → Nearest a d (suc n) → a < suc n * d → a / d ≡ n
cut_below a d n D w h = div-eq_of_lt-le d (lo (suc-mul n d) w.high) (hi (add-mul n 1 d) (suc-mul n d) (one-mul d))
  where
    lo : suc n * d ≡ n * d + d → suc n * d * 2 ≤ a * 2 + d → n * d ≤ a
    lo c i = omega arith

    hi : (n + 1) * d ≡ n * d + 1 * d → suc n * d ≡ n * d + d → 1 * d ≡ d → a < (n + 1) * d
    hi c k o = omega arith

cut_at : (a d n : ℕ) → 0 < d → Nearest a d n → n * d ≤ a → a / d ≡ n
cut_at a d n D w h = div-eq_of_lt-le d h (hi (add-mul n 1 d) (one-mul d) w.low)
  where
    hi : (n + 1) * d ≡ n * d + 1 * d → 1 * d ≡ d → a * 2 ≤ n * d * 2 + d → a < (n + 1) * d
    hi c o i = omega arith

ceil-above : (a d n : ℕ) → 0 < d → Nearest a d n → n * d < a → (a + (d - 1)) / d ≡ n + 1
ceil-above a d n D w h = div-eq_of_lt-le d (lo (add-mul n 1 d) (one-mul d)) (hi (add-mul (n + 1) 1 d) (add-mul n 1 d) (one-mul d) w.low)
  where
    lo : (n + 1) * d ≡ n * d + 1 * d → 1 * d ≡ d → (n + 1) * d ≤ a + (d - 1)
    lo c o = omega arith

    hi : (n + 1 + 1) * d ≡ (n + 1) * d + 1 * d → (n + 1) * d ≡ n * d + 1 * d → 1 * d ≡ d → a * 2 ≤ n * d * 2 + d → a + (d - 1) < (n + 1 + 1) * d
    hi c k o i = omega arith

ceil-at : (a d n : ℕ) → 0 < d → Nearest a d n → a ≤ n * d → (a + (d - 1)) / d ≡ n
ceil-at a d n D w h = div-eq_of_lt-le d (lo w.high) (hi (add-mul n 1 d) (one-mul d))
  where
    lo : n * d * 2 ≤ a * 2 + d → n * d ≤ a + (d - 1)
    lo i = omega arith

    hi : (n + 1) * d ≡ n * d + 1 * d → 1 * d ≡ d → a + (d - 1) < (n + 1) * d
    hi c o = omega arith

-- ---- the answers

abbrev one : Float
one = fin false 1 (pos 0)

fine : (n : ℕ) → n ≤ 2 ^ 52 → n ≤ 2 ^ 53
fine n h = omega arith

module _ (m : ℕ) (e : ℤ) (small : suc m * up e < 2 ^ 52 * down e) where
  abbrev up-t : Float
  up-t = t false (suc m) e small

  abbrev up-n : ℕ
  up-n = n false (suc m) e small

  up_is : up-t ≡ round binary64 false up-n 1
  up_is = elim (t-is false (suc m) e small) [ inl p ↦ p.1 | inr p ↦ p.1 ∙ ap (λ (k : ℕ). round binary64 false k 1) (sym p.0) ]

  up-value : HasValue up-t false up-n 1
  up-value = subst (λ (y : Float). HasValue y false up-n 1) (sym up_is) (round_whole binary64 false up-n (fine up-n (n-le false (suc m) e small)))

  pub up-below : lt (fin false (suc m) e) up-t ≡ true → sub binary64 up-t one ≡ floor_of (fin false (suc m) e)
  unfolding floor_of
  up-below h = go up-n (near false (suc m) e small) up-value (above (suc m) e up-t up-n up-value h)
    where
      go : (k : ℕ) → Nearest (suc m * up e) (down e) k → HasValue up-t false k 1 → suc m * up e < k * down e → sub binary64 up-t one ≡ round binary64 false (suc m * up e / down e) 1
      go zero w v l = absurd (none (suc m * up e) (down e) l)
        where
          none : (a d : ℕ) → a < 0 * d → ⊥
          none a d h = omega arith
      go (suc zero) w v l = less-all up-t false 1 (pos 0) 1 v refl ∙ ap (λ (k : ℕ). round binary64 false k 1) (sym (cut_below (suc m * up e) (down e) 0 (down_pos e) w l))
      go (suc (suc k)) w v l =
          less-some up-t false 1 (pos 0) (suc (suc k)) 1 v refl (two k) ∙ ap (λ (k : ℕ). round binary64 false k 1) (back k ∙ sym (cut_below (suc m * up e) (down e) (suc k) (down_pos e) w l))
        where
          two : (k : ℕ) → 1 < suc (suc k)
          two k = omega arith

          back : (k : ℕ) → suc (suc k) - 1 ≡ suc k
          back k = omega arith

  pub up_at : lt (fin false (suc m) e) up-t ≡ false → up-t ≡ floor_of (fin false (suc m) e)
  unfolding floor_of
  up_at h = up_is ∙ ap (λ (k : ℕ). round binary64 false k 1) (sym (cut_at (suc m * up e) (down e) up-n (down_pos e) (near false (suc m) e small) (not_above (suc m) e up-t up-n up-value h)))

  abbrev down-t : Float
  down-t = t true (suc m) e small

  abbrev down-n : ℕ
  down-n = n true (suc m) e small

  value_of : (s : Bool) (k : ℕ) → k ≤ 2 ^ 52 → down-t ≡ round binary64 s k 1 → HasValue down-t s k 1
  value_of s k l p = subst (λ (y : Float). HasValue y s k 1) (sym p) (round_whole binary64 s k (fine k l))

  pub down-below : lt (fin true (suc m) e) down-t ≡ true → sub binary64 down-t one ≡ floor_of (fin true (suc m) e)
  unfolding floor_of
  down-below h = elim (t-is true (suc m) e small) [
    | inl p ↦
        let v = value_of true down-n (n-le true (suc m) e small) p.1 in
        negative-less-one down-t down-n v
        ∙ ap (λ (k : ℕ). round binary64 true k 1) (sym (ceil-above (suc m * up e) (down e) down-n (down_pos e) (near true (suc m) e small) (above-negative (suc m) e down-t down-n v h)))
    | inr p ↦
        zero-less-one down-t (value_of false 0 (zero-le' 0) p.1)
        ∙ ap (λ (k : ℕ). round binary64 true k 1) (sym (ceil-above (suc m * up e) (down e) 0 (down_pos e) (subst (λ (k : ℕ). Nearest (suc m * up e) (down e) k) p.0 (near true (suc m) e small)) (some (suc m * up e) (down e) (mul-pos (zero-lt-suc m) (up_pos e)))))
  ]
    where
      zero-le' : (z : ℕ) → z * 0 ≤ 2 ^ 52
      zero-le' z = omega arith

      some : (a d : ℕ) → 0 < a → 0 * d < a
      some a d h = omega arith

  pub down-at : lt (fin true (suc m) e) down-t ≡ false → down-t ≡ floor_of (fin true (suc m) e)
  unfolding floor_of
  down-at h = elim (t-is true (suc m) e small) [
    | inl p ↦
        let v = value_of true down-n (n-le true (suc m) e small) p.1 in
        p.1 ∙ ap (λ (k : ℕ). round binary64 true k 1) (sym (ceil-at (suc m * up e) (down e) down-n (down_pos e) (near true (suc m) e small) (not_above_negative (suc m) e down-t down-n v h)))
    | inr p ↦ absurd (below-zero m e down-t (value_of false 0 (zero-le' 0) p.1) h)
  ]
    where
      zero-le' : (z : ℕ) → z * 0 ≤ 2 ^ 52
      zero-le' z = omega arith

-- ---- by the tests of the code

abbrev pub nought : Float
nought = fin false 0 (pos 0)

abbrev big : Float
big = far false

pub nought-is : dec 0 0 ≡ nought
unfolding dec round
nought-is = refl

big-is : dec 4503599627370496 0 ≡ big
unfolding dec round
big-is = refl

-- finite, not 0, and below 2 ^ 52 in magnitude
abbrev Small : Float → Type 0
Small nan = ⊥
Small (inf s) = ⊥
Small (fin s zero e) = ⊥
Small (fin s (suc m) e) = suc m * up e < 2 ^ 52 * down e

pub not_negative : (m : ℕ) (e : ℤ) → lt (fin false m e) nought ≡ false
unfolding lt
not_negative m e = le-ltb (m * up e * 1) (0 * 1 * down e) (go (m * up e * 1) (down e))
  where
    go : (a d : ℕ) → 0 * 1 * d ≤ a
    go a d = omega arith

pub negative : (m : ℕ) (e : ℤ) → lt (fin true (suc m) e) nought ≡ true
unfolding lt
negative m e = lt-ltb 0 (suc m * up e * 1 + 0 * 1 * down e) (go (suc m * up e) (down e) (mul-pos (zero-lt-suc m) (up_pos e)))
  where
    go : (a d : ℕ) → 0 < a → 0 < a * 1 + 0 * 1 * d
    go a d h = omega arith

is-zero : (s : Bool) (e : ℤ) → eq (fin s zero e) nought ≡ true
unfolding eq
is-zero s e = go (0 * up e * 1) (0 * 1 * down e) (left (up e)) (left' (down e)) s
  where
    left : (a : ℕ) → 0 * a * 1 ≡ 0
    left a = omega arith

    left' : (d : ℕ) → 0 * 1 * d ≡ 0
    left' d = omega arith

    at : (s : Bool) → level s 0 false 0 ≡ true
    at true = refl
    at false = refl

    go : (a b : ℕ) → a ≡ 0 → b ≡ 0 → (s : Bool) → level s a false b ≡ true
    go a b p q s = ap (λ (x : ℕ). level s x false b) p ∙ ap (λ (x : ℕ). level s 0 false x) q ∙ at s

not-zero : (s : Bool) (m : ℕ) (e : ℤ) → eq (fin s (suc m) e) nought ≡ true → ⊥
unfolding eq
not-zero s m e h = go (suc m * up e) (down e) (mul-pos (zero-lt-suc m) (up_pos e)) (eqb→eq (suc m * up e * 1) (0 * 1 * down e) (and_l (eqb (suc m * up e * 1) (0 * 1 * down e)) (beq s false || eqb (suc m * up e * 1) 0) (subst T (sym h) tt)))
  where
    go : (a d : ℕ) → 0 < a → a * 1 ≡ 0 * 1 * d → ⊥
    go a d p e = omega arith

module _ (x : Float) where
  -- the code's constants are these
  pub zero-case : eq x (dec 0 0) ≡ true → x ≡ floor_of x
  unfolding floor_of eq
  zero-case h = go x (ap (λ (k : Float). eq x k) (sym nought-is) ∙ h)
    where
      go : (x : Float) → eq x nought ≡ true → x ≡ floor_of x
      go nan h = refl
      go (inf s) h = refl
      go (fin s zero e) h = refl
      go (fin s (suc m) e) h = absurd (not-zero s m e h)

  small_of : eq x nought ≡ false → lt (cond (lt x nought) (neg x) x) big ≡ true → Small x
  unfolding lt neg
  small_of = go x
    where
      tidy : (a d : ℕ) → a * 1 < 1 * 2 ^ 52 * d → a < 2 ^ 52 * d
      tidy a d h = omega arith

      under : (m : ℕ) (e : ℤ) → lt (fin false (suc m) e) big ≡ true → suc m * up e < 2 ^ 52 * down e
      under m e h = tidy (suc m * up e) (down e) (ltb-true (suc m * up e * 1) (1 * 2 ^ 52 * down e) h)

      go : (x : Float) → eq x nought ≡ false → lt (cond (lt x nought) (neg x) x) big ≡ true → Small x
      go nan z h = absurd (false≢true h)
      go (inf true) z h = absurd (false≢true h)
      go (inf false) z h = absurd (false≢true h)
      go (fin s zero e) z h = absurd (true≢false (sym (is-zero s e) ∙ z))
      go (fin false (suc m) e) z h = under m e (ap (λ (b : Bool). lt (cond b (neg (fin false (suc m) e)) (fin false (suc m) e)) big) (sym (not_negative (suc m) e)) ∙ h)
      go (fin true (suc m) e) z h = under m e (ap (λ (b : Bool). lt (cond b (neg (fin true (suc m) e)) (fin true (suc m) e)) big) (sym (negative m e)) ∙ h)

-- ---- from 2 ^ 52 on there is no fraction

no_fraction : (s : Bool) (m : ℕ) (e : ℤ) → T (fits binary64 (fin s (suc m) e)) → 2 ^ 52 * down e ≤ suc m * up e → (down e ≡ 1) × (round binary64 s (suc m * up e) 1 ≡ fin s (suc m) e)
unfolding fits
no_fraction s m e F h =
    let A = eqb (suc m % 2) 1 in
    let B = ltb (suc m) (2 ^ 53) in
    let C = leb (down e) (2 ^ 1074) in
    let D = ltb (suc m * up e) (2 ^ 1024 * down e) in
    at e (ltb→lt (suc m) (2 ^ 53) (and_r A B (and_l (A && B) C (and_l (A && B && C) D F)))) (ltb→lt (suc m * up e) (2 ^ 1024 * down e) (and_r (A && B && C) D F)) F h
  where
    too-low : (n a p : ℕ) → 2 ^ 52 * p ≤ n * 1 → p ≡ 2 * a → 0 < a → n < 2 ^ 53 → ⊥
    too-low n a p h e q l = omega arith

    at : (e : ℤ) → suc m < 2 ^ 53 → suc m * up e < 2 ^ 1024 * down e → T (fits binary64 (fin s (suc m) e)) → 2 ^ 52 * down e ≤ suc m * up e → (down e ≡ 1) × (round binary64 s (suc m * up e) 1 ≡ fin s (suc m) e)
    at (negsuc a) l u F h = absurd (too-low (suc m) (2 ^ a) (2 ^ suc a) h (pow-succ' 2 a) (pow_pos a) l)
    at (pos a) l u F h =
        let n = suc m * 2 ^ a in
        let scaled : n * 2 ^ 1074 ≡ suc m * 2 ^ (a + 1074) = mul_assoc (suc m) (2 ^ a) (2 ^ 1074) ∙ ap (λ (x : ℕ). suc m * x) (sym (pow-add 2 a 1074)) in
        let fine : suc m * 2 ^ (a + 1074) < 2 ^ 1024 * 2 ^ 1074 = lt_of_le_of_lt (le_of_eq (sym scaled)) (mul-lt-mul_of_pos_right (lt_of_lt_of_le u (le_of_eq (mul-one (2 ^ 1024)))) (pow_pos 1074)) in (
          refl,
          whole_unique binary64 (round binary64 s n 1) (fin s (suc m) (pos a)) s n (round-fits binary64 s n 1) F
              (round_exact binary64 s n 1 (suc m) (a + 1074) (zero-lt-suc 0) l fine (scaled ∙ sym (mul-one (suc m * 2 ^ (a + 1074)))))
              (refl, refl),
        )

pub large-case : (x : Float) → T (fits binary64 x) → lt (magnitude x) (dec 4503599627370496 0) ≡ false → x ≡ floor_of x
unfolding floor_of lt neg
large-case x F h = go x F (ap (λ (k : Float). lt (cond (lt x k) (neg x) x) big) (sym nought-is) ∙ ap (λ (k : Float). lt (magnitude x) k) (sym big-is) ∙ h)
  where
    tidy : (a d : ℕ) → 1 * 2 ^ 52 * d ≤ a * 1 → 2 ^ 52 * d ≤ a
    tidy a d h = omega arith

    over : (m : ℕ) (e : ℤ) → lt (fin false (suc m) e) big ≡ false → 2 ^ 52 * down e ≤ suc m * up e
    over m e h = tidy (suc m * up e) (down e) (ltb-false (suc m * up e * 1) (1 * 2 ^ 52 * down e) h)

    last : (n d : ℕ) → d ≡ 1 → (n + (d - 1)) / d ≡ n
    last n d e = ap (λ (k : ℕ). (n + (k - 1)) / k) e ∙ div-one (n + (1 - 1)) ∙ plain n
      where
        plain : (n : ℕ) → n + (1 - 1) ≡ n
        plain n = omega arith

    go : (x : Float) → T (fits binary64 x) → lt (cond (lt x nought) (neg x) x) big ≡ false → x ≡ floor_of x
    go nan F h = refl
    go (inf s) F h = refl
    go (fin s zero e) F h = refl
    go (fin false (suc m) e) F h =
        let z = no_fraction false m e F (over m e (ap (λ (b : Bool). lt (cond b (neg (fin false (suc m) e)) (fin false (suc m) e)) big) (sym (not_negative (suc m) e)) ∙ h)) in
        sym (ap (λ (d : ℕ). round binary64 false (suc m * up e / d) 1) z.0 ∙ ap (λ (n : ℕ). round binary64 false n 1) (div-one (suc m * up e)) ∙ z.1)
    go (fin true (suc m) e) F h =
        let z = no_fraction true m e F (over m e (ap (λ (b : Bool). lt (cond b (neg (fin true (suc m) e)) (fin true (suc m) e)) big) (sym (negative m e)) ∙ h)) in
        sym (ap (λ (n : ℕ). round binary64 true n 1) (last (suc m * up e) (down e) z.0) ∙ z.1)

-- ---- below 2 ^ 52

abbrev between : Bool → Float → Float
between b x = let k = cond b (far true) (far false) in sub binary64 (add binary64 x k) k

-- 2 ^ 52 with x's sign, and x moved by it and back: the whole number nearest to x
abbrev pub far_from : Float → Float
far_from x = cond (lt x (dec 0 0)) (⊝ dec 4503599627370496 0) (dec 4503599627370496 0)

abbrev pub whole_of : Float → Float
whole_of x = (x ⊕ far_from x) ⊖ far_from x

whole_is : (x : Float) → whole_of x ≡ between (lt x nought) x
unfolding dec round neg
whole_is x = refl

module _ (x t : Float) (is : t ≡ whole_of x) (nz : eq x (dec 0 0) ≡ false) (sm : lt (magnitude x) (dec 4503599627370496 0) ≡ true) where
  ready : Small x
  ready = small_of x (ap (λ (k : Float). eq x k) (sym nought-is) ∙ nz) (ap (λ (k : Float). lt (cond (lt x k) (neg x) x) big) (sym nought-is) ∙ ap (λ (k : Float). lt (magnitude x) k) (sym big-is) ∙ sm)

  pub less-case : lt x t ≡ true → sub binary64 t (dec 1 0) ≡ floor_of x
  unfolding dec round
  less-case = subst (λ (t : Float). lt x t ≡ true → sub binary64 t one ≡ floor_of x) (sym (is ∙ whole_is x)) (go x ready)
    where
      go : (x : Float) → Small x → lt x (between (lt x nought) x) ≡ true → sub binary64 (between (lt x nought) x) one ≡ floor_of x
      go nan w = absurd w
      go (inf s) w = absurd w
      go (fin s zero e) w = absurd w
      go (fin false (suc m) e) w = subst (λ (b : Bool). lt (fin false (suc m) e) (between b (fin false (suc m) e)) ≡ true → sub binary64 (between b (fin false (suc m) e)) one ≡ floor_of (fin false (suc m) e)) (sym (not_negative (suc m) e)) (up-below m e w)
      go (fin true (suc m) e) w = subst (λ (b : Bool). lt (fin true (suc m) e) (between b (fin true (suc m) e)) ≡ true → sub binary64 (between b (fin true (suc m) e)) one ≡ floor_of (fin true (suc m) e)) (sym (negative m e)) (down-below m e w)

  pub same_case : lt x t ≡ false → t ≡ floor_of x
  same_case = subst (λ (t : Float). lt x t ≡ false → t ≡ floor_of x) (sym (is ∙ whole_is x)) (go x ready)
    where
      go : (x : Float) → Small x → lt x (between (lt x nought) x) ≡ false → between (lt x nought) x ≡ floor_of x
      go nan w = absurd w
      go (inf s) w = absurd w
      go (fin s zero e) w = absurd w
      go (fin false (suc m) e) w = subst (λ (b : Bool). lt (fin false (suc m) e) (between b (fin false (suc m) e)) ≡ false → between b (fin false (suc m) e) ≡ floor_of (fin false (suc m) e)) (sym (not_negative (suc m) e)) (up_at m e w)
      go (fin true (suc m) e) w = subst (λ (b : Bool). lt (fin true (suc m) e) (between b (fin true (suc m) e)) ≡ false → between b (fin true (suc m) e) ≡ floor_of (fin true (suc m) e)) (sym (negative m e)) (down-at m e w)

  -- either way
  pub small-case : cond (lt x t) (sub binary64 t (dec 1 0)) t ≡ floor_of x
  small-case = go (lt x t) less-case same_case
    where
      go : (b : Bool) → (b ≡ true → sub binary64 t (dec 1 0) ≡ floor_of x) → (b ≡ false → t ≡ floor_of x) → cond b (sub binary64 t (dec 1 0)) t ≡ floor_of x
      go true p q = p refl
      go false p q = q refl
