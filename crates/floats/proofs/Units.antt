-- The value of a pattern in units of 2 ^ -1074, its sign apart, and the remainder of two floats as that of two such numbers. Assumes nothing.
use mathlib.Core.Path.{◌≡◌, refl, sym, ap, ap₂, ◌∙◌, subst}
use Prim.Native.Nat.{ℕ, zero, suc, ◌+◌, ◌-◌, ◌*◌, ◌/◌, ◌%◌, ◌^◌, ◌≤◌, ◌<◌, min}
use native.Mathlib.Nat.{le_trans, le_of_eq, lt_of_lt_of_le, lt_of_le_of_lt, lt_irrefl, mod-lt, mod-eq_of_lt, zero-mul, mul-one, add-mul, mul_assoc, mul_comm, mul_right_comm, mul-pos, mul-le-mul_right, mul-le-mul_left, mul-lt-mul_of_pos_right, mul-div_cancel, div-add-mod', zero-lt-suc}
use native.Mathlib.Omega.{arith}
use mathlib.Core.Bool.{Bool, true, false, not, cond, beq}
use lib.IntN.{ℤ}
use lib.Dec.{T, leb, ltb, eqb, lit<}
use lib.Pow.{pow-add, pow_pos, pow_mono, shl_lt, shl_exact}
use lib.Count.{count_leading_zeros, leading_top}
use lib.Ieee.{Float, nan, inf, fin, binary64, up, down, size, odd, fits, is_nan, of_fields, of_bits, to_bits, round, rem, sub, add, neg, div}
use lib.Ieee.Bits.{of_bits-to_bits, to_bits-lt}
use lib.Ieee.Exact.{HasValue, odd_sign, round_exact}
use lib.Ieee.Fits.{up_pos, down_pos, round-fits}
use lib.Ieee.Scale.{round_same, finite}
use borrow.Author.Tests.{lt-ltb, le-ltb, le-leb, lt-leb, eq-eqb, ne_eqb, ltb-true, ltb-false}
use Rattle.std.proofs.lemmas.Nat.{mod-mul-add, mul-mod_first}
use Rattle.floats.specs.Remainder.{sig_of, units_of}
use Rattle.floats.proofs.Patterns.{pow_lt_back}

-- ---- the units of a pattern

pub sig-low : (p : ℕ) → p < 2 ^ 52 → sig_of p ≡ p
unfolding sig_of
sig-low p h = ap (λ (b : Bool). cond b p (2 ^ 52 + p % 2 ^ 52)) (lt-ltb p (2 ^ 52) h)

pub sig-high : (p : ℕ) → 2 ^ 52 ≤ p → sig_of p ≡ 2 ^ 52 + p % 2 ^ 52
unfolding sig_of
sig-high p h = ap (λ (b : Bool). cond b p (2 ^ 52 + p % 2 ^ 52)) (le-ltb p (2 ^ 52) h)

pub units-is : (p : ℕ) → units_of p ≡ sig_of p * 2 ^ (p / 2 ^ 52 - 1)
unfolding units_of
units-is p = refl

pub units-low : (p : ℕ) → p < 2 ^ 52 → units_of p ≡ p
units-low p h = units-is p ∙ ap₂ (λ (x y : ℕ). x * 2 ^ y) (sig-low p h) (none p h) ∙ mul-one p
  where
    none : (p : ℕ) → p < 2 ^ 52 → p / 2 ^ 52 - 1 ≡ 0
    none p h = omega arith

pub units-high : (p j : ℕ) → p / 2 ^ 52 ≡ suc j → units_of p ≡ (2 ^ 52 + p % 2 ^ 52) * 2 ^ j
units-high p j e = units-is p ∙ ap₂ (λ (x y : ℕ). x * 2 ^ y) (sig-high p (some p j e)) (less p j e)
  where
    some : (p j : ℕ) → p / 2 ^ 52 ≡ suc j → 2 ^ 52 ≤ p
    some p j e = omega arith

    less : (p j : ℕ) → p / 2 ^ 52 ≡ suc j → p / 2 ^ 52 - 1 ≡ j
    less p j e = omega arith

-- k places and the digits g make a pattern: there are fewer than 53 digits only where k is 0
pub packed-units : (g k : ℕ) → g < 2 ^ 53 → (g < 2 ^ 52 → k ≡ 0) → units_of (k * 2 ^ 52 + g) ≡ g * 2 ^ k
packed-units g k h z = go (ltb g (2 ^ 52)) refl
  where
    go : (b : Bool) → ltb g (2 ^ 52) ≡ b → units_of (k * 2 ^ 52 + g) ≡ g * 2 ^ k
    go true e =
        let l = ltb-true g (2 ^ 52) e in
        let o = z l in
        ap units_of (plain g k o) ∙ units-low g l ∙ sym (mul-one g) ∙ ap (λ (x : ℕ). g * 2 ^ x) (sym o)
      where
        plain : (g k : ℕ) → k ≡ 0 → k * 2 ^ 52 + g ≡ g
        plain g k o = omega arith
    go false e =
        let l = ltb-false g (2 ^ 52) e in
        units-high (k * 2 ^ 52 + g) k (field g k l h) ∙ ap (λ (x : ℕ). x * 2 ^ k) (digits g k l h)
      where
        field : (g k : ℕ) → 2 ^ 52 ≤ g → g < 2 ^ 53 → (k * 2 ^ 52 + g) / 2 ^ 52 ≡ suc k
        field g k l h = omega arith

        digits : (g k : ℕ) → 2 ^ 52 ≤ g → g < 2 ^ 53 → 2 ^ 52 + (k * 2 ^ 52 + g) % 2 ^ 52 ≡ g
        digits g k l h = omega arith

pub sig-few : (p : ℕ) → sig_of p < 2 ^ 53
sig-few p = go (ltb p (2 ^ 52)) refl
  where
    less : (p : ℕ) → p < 2 ^ 52 → p < 2 ^ 53
    less p h = omega arith

    lead : (p : ℕ) → 2 ^ 52 + p % 2 ^ 52 < 2 ^ 53
    lead p = omega arith

    go : (b : Bool) → ltb p (2 ^ 52) ≡ b → sig_of p < 2 ^ 53
    go true e = let l = ltb-true p (2 ^ 52) e in subst (λ (k : ℕ). k < 2 ^ 53) (sym (sig-low p l)) (less p l)
    go false e = subst (λ (k : ℕ). k < 2 ^ 53) (sym (sig-high p (ltb-false p (2 ^ 52) e))) (lead p)

pub sig-some : (p : ℕ) → 0 < p → 0 < sig_of p
sig-some p h = go (ltb p (2 ^ 52)) refl
  where
    lead : (p : ℕ) → 0 < 2 ^ 52 + p % 2 ^ 52
    lead p = omega arith

    go : (b : Bool) → ltb p (2 ^ 52) ≡ b → 0 < sig_of p
    go true e = subst (λ (k : ℕ). 0 < k) (sym (sig-low p (ltb-true p (2 ^ 52) e))) h
    go false e = subst (λ (k : ℕ). 0 < k) (sym (sig-high p (ltb-false p (2 ^ 52) e))) (lead p)

pub units-some : (p : ℕ) → 0 < p → 0 < units_of p
units-some p h = subst (λ (k : ℕ). 0 < k) (sym (units-is p)) (mul-pos (sig-some p h) (pow_pos (p / 2 ^ 52 - 1)))

-- a pattern whose digits stand further to the right is less
pub units-less : (a b : ℕ) → a / 2 ^ 52 - 1 < b / 2 ^ 52 - 1 → units_of a < units_of b
units-less a b h =
    let f = a / 2 ^ 52 - 1 in
    let o = b / 2 ^ 52 - 1 in
    let x : units_of a < 2 ^ 53 * 2 ^ f = subst (λ (k : ℕ). k < 2 ^ 53 * 2 ^ f) (sym (units-is a)) (mul-lt-mul_of_pos_right (sig-few a) (pow_pos f)) in
    let y : 2 ^ 53 * 2 ^ f ≤ 2 ^ 52 * 2 ^ o = le_trans (le_of_eq (mul_assoc (2 ^ 52) 2 (2 ^ f) ∙ ap (λ (k : ℕ). 2 ^ 52 * k) (sym (pow-add 2 1 f)))) (mul-le-mul_left (2 ^ 52) (pow_mono {i = 1 + f} {j = o} (one_more f o h))) in
    let z : 2 ^ 52 * 2 ^ o ≤ units_of b = le_trans (mul-le-mul_right (2 ^ o) (subst (λ (k : ℕ). 2 ^ 52 ≤ k) (sym (sig-high b (far a b h))) (lead b))) (le_of_eq (sym (units-is b))) in
    lt_of_lt_of_le x (le_trans y z)
  where
    one_more : (f o : ℕ) → f < o → 1 + f ≤ o
    one_more f o h = omega arith

    far : (a b : ℕ) → a / 2 ^ 52 - 1 < b / 2 ^ 52 - 1 → 2 ^ 52 ≤ b
    far a b h = omega arith

    lead : (p : ℕ) → 2 ^ 52 ≤ 2 ^ 52 + p % 2 ^ 52
    lead p = omega arith

-- ---- digits moved up as far as there is room and there are places

pub record Moved (sig shift up : ℕ) : Type 0 where
  pub kept : sig * 2 ^ up % 2 ^ 64 ≡ sig * 2 ^ up
  pub few : sig * 2 ^ up < 2 ^ 53
  pub lean : sig * 2 ^ up < 2 ^ 52 → shift - up ≡ 0
  pub within : up ≤ shift

module _ (sig : ℕ) (some : 0 < sig) (few : sig < 2 ^ 53) where
  -- with j digits below the highest one
  top : (j : ℕ) × (count_leading_zeros 64 sig + suc j ≡ 64) × (2 ^ j ≤ sig) × (sig < 2 ^ suc j)
  top = leading_top 64 sig some (wide sig few)
    where
      wide : (k : ℕ) → k < 2 ^ 53 → k < 2 ^ 64
      wide k h = omega arith

  low : top.0 < 53
  low = pow_lt_back top.0 53 (lt_of_le_of_lt top.2 few)

  pub eleven : 11 ≤ count_leading_zeros 64 sig
  eleven = omega (arith, low, top.1)

  fits-up : (up : ℕ) → up ≤ count_leading_zeros 64 sig - 11 → suc top.0 + up ≤ 53
  fits-up up h = omega (arith, low, top.1, h)

  in-word : (k : ℕ) → k ≤ 53 → k ≤ 64
  in-word k h = omega arith

  kept-up : (up : ℕ) → up ≤ count_leading_zeros 64 sig - 11 → sig * 2 ^ up % 2 ^ 64 ≡ sig * 2 ^ up
  kept-up up h = shl_exact (suc top.0) up 64 top.3 (in-word (suc top.0 + up) (fits-up up h))

  few-up : (up : ℕ) → up ≤ count_leading_zeros 64 sig - 11 → sig * 2 ^ up < 2 ^ 53
  few-up up h = lt_of_lt_of_le (shl_lt (suc top.0) up top.3) (pow_mono {i = suc top.0 + up} {j = 53} (fits-up up h))

  full : 2 ^ 52 ≤ sig * 2 ^ (count_leading_zeros 64 sig - 11)
  full = le_trans (le_of_eq (ap (λ (k : ℕ). 2 ^ k) join ∙ pow-add 2 top.0 (count_leading_zeros 64 sig - 11))) (mul-le-mul_right (2 ^ (count_leading_zeros 64 sig - 11)) top.2)
    where
      join : 52 ≡ top.0 + (count_leading_zeros 64 sig - 11)
      join = omega (arith, low, top.1)

  pub moved-min : (shift : ℕ) → Moved sig shift (min (count_leading_zeros 64 sig - 11) shift)
  moved-min shift = go (min (count_leading_zeros 64 sig - 11) shift) (omega arith) (omega arith) (omega arith)
    where
      none : (up : ℕ) → up ≤ shift → (up < shift → ⊥) → shift - up ≡ 0
      none up b h = omega arith

      go : (up : ℕ) → up ≤ count_leading_zeros 64 sig - 11 → up ≤ shift → (up < shift → up ≡ count_leading_zeros 64 sig - 11) → Moved sig shift up
      go up a b c = record { kept = kept-up up a; few = few-up up a; lean = λ (l : sig * 2 ^ up < 2 ^ 52). none up b (λ (h : up < shift). lt_irrefl (2 ^ 52) (lt_of_le_of_lt full (subst (λ (k : ℕ). sig * 2 ^ k < 2 ^ 52) (c h) l))); within = b }

pub moved-units : (sig shift up : ℕ) → Moved sig shift up → units_of ((shift - up) * 2 ^ 52 + sig * 2 ^ up % 2 ^ 64) ≡ sig * 2 ^ shift
moved-units sig shift up m =
    ap (λ (k : ℕ). units_of ((shift - up) * 2 ^ 52 + k)) m.kept
    ∙ packed-units (sig * 2 ^ up) (shift - up) m.few m.lean
    ∙ mul_assoc sig (2 ^ up) (2 ^ (shift - up))
    ∙ ap (λ (k : ℕ). sig * k) (sym (pow-add 2 up (shift - up)) ∙ ap (λ (k : ℕ). 2 ^ k) (back up shift m.within))
  where
    back : (u s : ℕ) → u ≤ s → u + (s - u) ≡ s
    back u s h = omega arith

pub moved-lt : (sig shift up : ℕ) → shift ≤ 2045 → Moved sig shift up → (shift - up) * 2 ^ 52 + sig * 2 ^ up % 2 ^ 64 < 2047 * 2 ^ 52
moved-lt sig shift up h m = subst (λ (k : ℕ). (shift - up) * 2 ^ 52 + k < 2047 * 2 ^ 52) (sym m.kept) (go (sig * 2 ^ up) shift up h m.few)
  where
    go : (g s u : ℕ) → s ≤ 2045 → g < 2 ^ 53 → (s - u) * 2 ^ 52 + g < 2047 * 2 ^ 52
    go g s u h l = omega arith

-- ---- the value of a pattern below the infinity's, with a sign

of_bits_is : (b : ℕ) → of_bits binary64 b ≡ of_fields binary64 (leb (2 ^ 63) b) (b % 2 ^ 63 / 2 ^ 52) (b % 2 ^ 52)
unfolding of_bits
of_bits_is b = refl

pub fields : (s : Bool) (a : ℕ) → a < 2 ^ 63 → of_bits binary64 (cond s (2 ^ 63) 0 + a) ≡ of_fields binary64 s (a / 2 ^ 52) (a % 2 ^ 52)
fields true a h =
    of_bits_is (2 ^ 63 + a)
    ∙ ap (λ (s : Bool). of_fields binary64 s ((2 ^ 63 + a) % 2 ^ 63 / 2 ^ 52) ((2 ^ 63 + a) % 2 ^ 52)) (le-leb (2 ^ 63) (2 ^ 63 + a) (more a))
    ∙ ap₂ (λ (x y : ℕ). of_fields binary64 true x y) (field a h) (digits a)
  where
    more : (a : ℕ) → 2 ^ 63 ≤ 2 ^ 63 + a
    more a = omega arith

    field : (a : ℕ) → a < 2 ^ 63 → (2 ^ 63 + a) % 2 ^ 63 / 2 ^ 52 ≡ a / 2 ^ 52
    field a h = omega arith

    digits : (a : ℕ) → (2 ^ 63 + a) % 2 ^ 52 ≡ a % 2 ^ 52
    digits a = omega arith
fields false a h =
    of_bits_is (0 + a)
    ∙ ap (λ (s : Bool). of_fields binary64 s ((0 + a) % 2 ^ 63 / 2 ^ 52) ((0 + a) % 2 ^ 52)) (lt-leb (2 ^ 63) (0 + a) (less a h))
    ∙ ap₂ (λ (x y : ℕ). of_fields binary64 false x y) (field a h) (digits a)
  where
    less : (a : ℕ) → a < 2 ^ 63 → 0 + a < 2 ^ 63
    less a h = omega arith

    field : (a : ℕ) → a < 2 ^ 63 → (0 + a) % 2 ^ 63 / 2 ^ 52 ≡ a / 2 ^ 52
    field a h = omega arith

    digits : (a : ℕ) → (0 + a) % 2 ^ 52 ≡ a % 2 ^ 52
    digits a = omega arith

low-fields : (s : Bool) (t : ℕ) → of_fields binary64 s 0 t ≡ odd 53 s t 0 1074
unfolding of_fields
low-fields s t = refl

high-fields : (s : Bool) (x t : ℕ) → suc x < 2047 → of_fields binary64 s (suc x) t ≡ odd 53 s (2 ^ 52 + t) x 1074
unfolding of_fields
high-fields s x t h = ap (λ (b : Bool). cond b (cond (eqb t 0) (inf s) nan) (odd 53 s (2 ^ 52 + t) x 1074)) (ne_eqb (suc x) 2047 (differ (suc x) h))
  where
    differ : (x : ℕ) → x < 2047 → x ≡ 2047 → ⊥
    differ x a e = omega arith

top-fields : (s : Bool) (t : ℕ) → of_fields binary64 s 2047 t ≡ cond (eqb t 0) (inf s) nan
unfolding of_fields
top-fields s t = refl

pub valued : (s : Bool) (a : ℕ) → a < 2047 * 2 ^ 52 → HasValue (of_bits binary64 (cond s (2 ^ 63) 0 + a)) s (units_of a) (2 ^ 1074)
valued s a h = subst (λ (x : Float). HasValue x s (units_of a) (2 ^ 1074)) (sym (fields s a (small a h))) (go (a / 2 ^ 52) refl)
  where
    small : (a : ℕ) → a < 2047 * 2 ^ 52 → a < 2 ^ 63
    small a h = omega arith

    go : (f : ℕ) → a / 2 ^ 52 ≡ f → HasValue (of_fields binary64 s (a / 2 ^ 52) (a % 2 ^ 52)) s (units_of a) (2 ^ 1074)
    go zero e =
        subst (λ (x : Float). HasValue x s (units_of a) (2 ^ 1074))
        (sym (ap (λ (x : ℕ). of_fields binary64 s x (a % 2 ^ 52)) e ∙ low-fields s (a % 2 ^ 52)))
        (subst (λ (u : ℕ). HasValue (odd 53 s (a % 2 ^ 52) 0 1074) s u (2 ^ 1074))
        (mul-one (a % 2 ^ 52) ∙ whole a e ∙ sym (units-low a (few a e)))
        (odd_sign 53 s (a % 2 ^ 52) 0 1074))
      where
        few : (a : ℕ) → a / 2 ^ 52 ≡ 0 → a < 2 ^ 52
        few a e = omega arith

        whole : (a : ℕ) → a / 2 ^ 52 ≡ 0 → a % 2 ^ 52 ≡ a
        whole a e = omega arith
    go (suc x) e =
        subst (λ (x : Float). HasValue x s (units_of a) (2 ^ 1074))
        (sym (ap (λ (x : ℕ). of_fields binary64 s x (a % 2 ^ 52)) e ∙ high-fields s x (a % 2 ^ 52) (field a x h e)))
        (subst (λ (u : ℕ). HasValue (odd 53 s (2 ^ 52 + a % 2 ^ 52) x 1074) s u (2 ^ 1074)) (sym (units-high a x e)) (odd_sign 53 s (2 ^ 52 + a % 2 ^ 52) x 1074))
      where
        field : (a x : ℕ) → a < 2047 * 2 ^ 52 → a / 2 ^ 52 ≡ suc x → suc x < 2047
        field a x h e = omega arith

-- from the infinity's on it is none
pub endless : (s : Bool) (a : ℕ) → 2047 * 2 ^ 52 ≤ a → a < 2 ^ 63 → T (not (finite (of_bits binary64 (cond s (2 ^ 63) 0 + a))))
endless s a l h =
    subst (λ (x : Float). T (not (finite x))) (sym (fields s a h ∙ ap (λ (x : ℕ). of_fields binary64 s x (a % 2 ^ 52)) (field a l h) ∙ top-fields s (a % 2 ^ 52)))
    (go (eqb (a % 2 ^ 52) 0))
  where
    field : (a : ℕ) → 2047 * 2 ^ 52 ≤ a → a < 2 ^ 63 → a / 2 ^ 52 ≡ 2047
    field a l h = omega arith

    go : (b : Bool) → T (not (finite (cond b (inf s) nan)))
    go true = tt
    go false = tt

-- ---- a value is written in one way

to_bits-by : (v : Float) (s : Bool) (a : ℕ) → HasValue v s a (2 ^ 1074) → to_bits binary64 v ≡ cond s (2 ^ 63) 0 + (size a - 53) * 2 ^ 52 + a / 2 ^ (size a - 53)
unfolding to_bits
to_bits-by nan s a h = absurd h
to_bits-by (inf b) s a h = absurd h
to_bits-by (fin b m e) s a h =
    let is : m * up e * 2 ^ 1074 / down e ≡ a = ap (λ (x : ℕ). x / down e) h.1 ∙ mul-div_cancel a (down_pos e) in
    ap (λ (x : ℕ). cond b (2 ^ 63) 0 + (size x - 53) * 2 ^ 52 + x / 2 ^ (size x - 53)) is
    ∙ ap (λ (c : Bool). cond c (2 ^ 63) 0 + (size a - 53) * 2 ^ 52 + a / 2 ^ (size a - 53)) h.0

pub unique : (x y : Float) (s : Bool) (a : ℕ) → T (fits binary64 x) → T (fits binary64 y) → HasValue x s a (2 ^ 1074) → HasValue y s a (2 ^ 1074) → x ≡ y
unique x y s a p q v w = sym (of_bits-to_bits binary64 x p) ∙ ap (of_bits binary64) (to_bits-by x s a v ∙ sym (to_bits-by y s a w)) ∙ of_bits-to_bits binary64 y q

-- ---- remainders of whole numbers

pub mod-scale : (x y z : ℕ) → 0 < y → 0 < z → x % y * z ≡ x * z % (y * z)
mod-scale x y z Y Z =
    sym (mod-mul-add (x / y) (y * z) (x % y * z) (mul-lt-mul_of_pos_right (mod-lt x Y) Z))
    ∙ ap (λ (k : ℕ). k % (y * z)) (ap (λ (k : ℕ). k + x % y * z) (sym (mul_assoc (x / y) y z)) ∙ sym (add-mul (x / y * y) (x % y) z) ∙ ap (λ (k : ℕ). k * z) (div-add-mod' x y))

-- the remainder of two numbers over a unit is that of their counts
mod-units : (p q D A B u : ℕ) → 0 < q → 0 < B → 0 < u → 0 < D → p * u ≡ A * D → q * u ≡ B * D → p % q * u ≡ A % B * D
mod-units p q D A B u Q P U E f g = mod-scale p q u Q U ∙ ap₂ (λ (x y : ℕ). x % y) f g ∙ sym (mod-scale A B D P E)

-- a step of a shifted remainder, by 11 places, and the last one
pub wrapped-step : (r left by g : ℕ) → 0 < by → by < 2 ^ 53 → r < by → 11 ≤ left → r * 2 ^ left % by ≡ g → (r * 2048 % 2 ^ 64 % by < by) × (r * 2048 % 2 ^ 64 % by * 2 ^ (left - 11) % by ≡ g)
wrapped-step r left by g P B R h e =
    let kept : r * 2048 % 2 ^ 64 ≡ r * 2048 = mod-eq_of_lt (wide r by R B) in (
      mod-lt (r * 2048 % 2 ^ 64) P,
      ap (λ (k : ℕ). k % by * 2 ^ (left - 11) % by) kept
          ∙ mul-mod_first (r * 2048) (2 ^ (left - 11)) by
          ∙ ap (λ (k : ℕ). k % by) (mul_assoc r 2048 (2 ^ (left - 11)) ∙ ap (λ (k : ℕ). r * k) (sym (pow-add 2 11 (left - 11)) ∙ ap (λ (k : ℕ). 2 ^ k) (back left h)))
          ∙ e,
    )
  where
    wide : (r by : ℕ) → r < by → by < 2 ^ 53 → r * 2048 < 2 ^ 64
    wide r by a b = omega arith

    back : (l : ℕ) → 11 ≤ l → 11 + (l - 11) ≡ l
    back l h = omega arith

pub wrapped-last : (r left by : ℕ) → by < 2 ^ 53 → r < by → left < 11 → r * 2 ^ left % 2 ^ 64 % by ≡ r * 2 ^ left % by
wrapped-last r left by B R h = ap (λ (k : ℕ). k % by) (shl_exact 53 left 64 (less r by R B) (few left h))
  where
    less : (r by : ℕ) → r < by → by < 2 ^ 53 → r < 2 ^ 53
    less r by a b = omega arith

    few : (l : ℕ) → l < 11 → 53 + l ≤ 64
    few l h = omega arith

pub shifted-mod : (s t f o : ℕ) → 0 < t → o ≤ f → s * 2 ^ (f - o) % t * 2 ^ o ≡ s * 2 ^ f % (t * 2 ^ o)
shifted-mod s t f o P h =
    mod-scale (s * 2 ^ (f - o)) t (2 ^ o) P (pow_pos o)
    ∙ ap (λ (k : ℕ). k % (t * 2 ^ o)) (mul_assoc s (2 ^ (f - o)) (2 ^ o) ∙ ap (λ (k : ℕ). s * k) (sym (pow-add 2 (f - o) o) ∙ ap (λ (k : ℕ). 2 ^ k) (back f o h)))
  where
    back : (f o : ℕ) → o ≤ f → f - o + o ≡ f
    back f o h = omega arith

-- ---- the remainder of two floats

rem-fin : (s : Bool) (m : ℕ) (e : ℤ) (t : Bool) (n : ℕ) (d : ℤ) → 0 < n → rem binary64 (fin s m e) (fin t n d) ≡ round binary64 s (m * up e * down d % (n * up d * down e)) (down e * down d)
unfolding rem
rem-fin s m e t n d N = ap (λ (b : Bool). cond b nan (round binary64 s (m * up e * down d % (n * up d * down e)) (down e * down d))) (ne_eqb n 0 (λ (h : n ≡ 0). lt_irrefl 0 (subst (λ (z : ℕ). 0 < z) h N)))

-- a value above 0 has digits
above : (n U c B D : ℕ) → 0 < c → 0 < B → 0 < D → n * U * c ≡ B * D → 0 < n
above zero U c B D C P E h = absurd (lt_irrefl 0 (subst (λ (z : ℕ). 0 < z) (sym h ∙ ap (λ (z : ℕ). z * c) (zero-mul U) ∙ zero-mul c) (mul-pos P E)))
above (suc n) U c B D C P E h = zero-lt-suc n

pub rem-units : (x m v : Float) (s t : Bool) (A B q j : ℕ) → T (fits binary64 v) → HasValue x s A (2 ^ 1074) → HasValue m t B (2 ^ 1074) → 0 < B
    → q < 2 ^ 53 → j ≤ 2045 → q * 2 ^ j ≡ A % B → HasValue v s (q * 2 ^ j) (2 ^ 1074) → v ≡ rem binary64 x m
rem-units nan m v s t A B q j F X M P Q J e V = absurd X
rem-units (inf _) m v s t A B q j F X M P Q J e V = absurd X
rem-units (fin _ _ _) nan v s t A B q j F X M P Q J e V = absurd M
rem-units (fin _ _ _) (inf _) v s t A B q j F X M P Q J e V = absurd M
rem-units (fin s' k f) (fin t' n d) v s t A B q j F X M P Q J e V =
    let u = 2 ^ 1074 in
    let D = down f * down d in
    let dp : 0 < D = mul-pos (down_pos f) (down_pos d) in
    let N : 0 < n = above n (up d) u B (down d) (pow_pos 1074) P (down_pos d) M.1 in
    let a : k * up f * down d * u ≡ A * D = mul_right_comm (k * up f) (down d) u ∙ ap (λ (z : ℕ). z * down d) X.1 ∙ mul_assoc A (down f) (down d) in
    let b : n * up d * down f * u ≡ B * D = mul_right_comm (n * up d) (down f) u ∙ ap (λ (z : ℕ). z * down f) M.1 ∙ mul_assoc B (down d) (down f) ∙ ap (λ (z : ℕ). B * z) (mul_comm (down d) (down f)) in
    let r : k * up f * down d % (n * up d * down f) * u ≡ q * 2 ^ j * D = mod-units (k * up f * down d) (n * up d * down f) D A B u (mul-pos (mul-pos N (up_pos d)) (down_pos f)) P (pow_pos 1074) dp a b ∙ ap (λ (z : ℕ). z * D) (sym e) in
    let w : rem binary64 (fin s' k f) (fin t' n d) ≡ round binary64 s (q * 2 ^ j) u =
    rem-fin s' k f t' n d N
    ∙ round_same binary64 s' (k * up f * down d % (n * up d * down f)) D (q * 2 ^ j) u dp (pow_pos 1074) r
    ∙ ap (λ (z : Bool). round binary64 z (q * 2 ^ j) u) X.0 in
    unique v (round binary64 s (q * 2 ^ j) u) s (q * 2 ^ j) F (round-fits binary64 s (q * 2 ^ j) u) V
    (round_exact binary64 s (q * 2 ^ j) u q j (pow_pos 1074) Q (lt_of_lt_of_le (shl_lt 53 j Q) (pow_mono {i = 53 + j} {j = 2098} (fine j J))) refl)
    ∙ sym w
  where
    fine : (j : ℕ) → j ≤ 2045 → 53 + j ≤ 2098
    fine j h = omega arith

-- of a NaN and an infinity, and of zero
pub rem-right : (x : Float) → nan ≡ rem binary64 x nan
unfolding rem
rem-right nan = refl
rem-right (inf s) = refl
rem-right (fin s m e) = refl

pub rem-left : (y : Float) → nan ≡ rem binary64 nan y
unfolding rem
rem-left y = refl

pub rem-endless : (x y : Float) → T (not (finite x)) → sub binary64 x x ≡ rem binary64 x y
unfolding rem sub add neg
rem-endless nan y h = refl
rem-endless (inf true) y h = refl
rem-endless (inf false) y h = refl
rem-endless (fin s m e) y h = absurd h

pub rem-far : (x y : Float) (s : Bool) (a c : ℕ) → HasValue x s a c → T (not (is_nan y)) → T (not (finite y)) → x ≡ rem binary64 x y
unfolding rem is_nan
rem-far nan y s a c v n h = absurd v
rem-far (inf _) y s a c v n h = absurd v
rem-far (fin _ m e) nan s a c v n h = absurd n
rem-far (fin _ m e) (inf t) s a c v n h = refl
rem-far (fin _ m e) (fin t n' d) s a c v n h = absurd h

nothing : (n U c D : ℕ) → 0 < U → 0 < c → n * U * c ≡ 0 * D → n ≡ 0
nothing zero U c D P C h = refl
nothing (suc n) U c D P C h = absurd (lt_irrefl 0 (subst (λ (z : ℕ). 0 < z) (h ∙ zero-mul D) (mul-pos (mul-pos (zero-lt-suc n) P) C)))

pub rem-zero : (x y : Float) (s t : Bool) (a c : ℕ) → 0 < c → HasValue x s a c → HasValue y t 0 c → div binary64 y y ≡ rem binary64 x y
unfolding rem div
rem-zero nan y s t a c C v w = absurd v
rem-zero (inf _) y s t a c C v w = absurd v
rem-zero (fin _ _ _) nan s t a c C v w = absurd w
rem-zero (fin _ _ _) (inf _) s t a c C v w = absurd w
rem-zero (fin s' m e) (fin t' n d) s t a c C v w =
    let z : n ≡ 0 = nothing n (up d) c (down d) (up_pos d) C w.1 in
    let o : eqb n 0 ≡ true = eq-eqb n 0 z in
    ap (λ (b : Bool). cond b (cond b nan (inf (not (beq t' t')))) (round binary64 (not (beq t' t')) (n * up d * down d) (n * up d * down d))) o
    ∙ sym (ap (λ (b : Bool). cond b nan (round binary64 s' (m * up e * down d % (n * up d * down e)) (down e * down d))) o)

-- ---- a float's sign, and the rest of its pattern

abbrev pub low_bits : Float → ℕ
low_bits x = to_bits binary64 x % 2 ^ 63

pub record Split (x : Float) : Type 0 where
  pub sign : Bool
  pub is : of_bits binary64 (cond sign (2 ^ 63) 0 + low_bits x) ≡ x
  pub high : to_bits binary64 x - low_bits x ≡ cond sign (2 ^ 63) 0

pub split-of : (x : Float) → T (fits binary64 x) → Split x
split-of x F = go (ltb (to_bits binary64 x) (2 ^ 63)) refl
  where
    whole : of_bits binary64 (to_bits binary64 x) ≡ x
    whole = of_bits-to_bits binary64 x F

    under : (n : ℕ) → n < 2 ^ 63 → 0 + n % 2 ^ 63 ≡ n
    under n h = omega arith

    none : (n : ℕ) → n < 2 ^ 63 → n - n % 2 ^ 63 ≡ 0
    none n h = omega arith

    over : (n : ℕ) → 2 ^ 63 ≤ n → n < 2 ^ 64 → 2 ^ 63 + n % 2 ^ 63 ≡ n
    over n h l = omega arith

    one : (n : ℕ) → 2 ^ 63 ≤ n → n < 2 ^ 64 → n - n % 2 ^ 63 ≡ 2 ^ 63
    one n h l = omega arith

    go : (b : Bool) → ltb (to_bits binary64 x) (2 ^ 63) ≡ b → Split x
    go true e =
        let l = ltb-true (to_bits binary64 x) (2 ^ 63) e in
        record { sign = false; is = ap (of_bits binary64) (under (to_bits binary64 x) l) ∙ whole; high = none (to_bits binary64 x) l }
    go false e =
        let l = ltb-false (to_bits binary64 x) (2 ^ 63) e in
        let h = to_bits-lt binary64 x F in
        record { sign = true; is = ap (of_bits binary64) (over (to_bits binary64 x) l h) ∙ whole; high = one (to_bits binary64 x) l h }

pub split-value : (x : Float) (s : Split x) → low_bits x < 2047 * 2 ^ 52 → HasValue x s.sign (units_of (low_bits x)) (2 ^ 1074)
split-value x s h = subst (λ (z : Float). HasValue z s.sign (units_of (low_bits x)) (2 ^ 1074)) s.is (valued s.sign (low_bits x) h)

pub split-endless : (x : Float) (s : Split x) → 2047 * 2 ^ 52 ≤ low_bits x → T (not (finite x))
split-endless x s h = subst (λ (z : Float). T (not (finite z))) s.is (endless s.sign (low_bits x) h (mod-lt (to_bits binary64 x) (pow_pos 63)))

pub units-zero : (p : ℕ) → p ≡ 0 → units_of p ≡ 0
units-zero p e = ap units_of e ∙ units-low 0 (lit< tt)
