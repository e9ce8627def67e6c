-- The value of a bit pattern, and the pattern of a value: a float that is not negative is its pattern's significand, shifted. Assumes nothing.
use mathlib.Core.Path.{◌≡◌, refl, sym, ap, ◌∙◌, subst}
use Prim.Native.Nat.{ℕ, suc, ◌+◌, ◌-◌, ◌*◌, ◌/◌, ◌%◌, ◌^◌, ◌≤◌, ◌<◌}
use native.Mathlib.Nat.{le_trans, le_of_eq, lt_irrefl, lt_of_lt_of_le, lt_of_le_of_lt, lt_of_not-le, le_antisymm, mod-lt, mod-le, mod-eq_of_lt, mul-one, mul_assoc, mul_right_comm, mul-le-mul_right, mul-lt-mul_of_pos_right, mul-pos, mul-div_cancel, div-lt_iff_lt-mul}
use native.Mathlib.Omega.{arith}
use mathlib.Core.Bool.{Bool, true, false, not, ◌&&◌, cond}
use lib.IntN.{ℤ, pos}
use lib.Dec.{T, leb, ltb, eqb, ltb→lt, eqb→eq, not_T, lit≤}
use lib.Arith.{lt→nleb, le→nltb}
use lib.Bits.{bit_and, bit_or, and_mask, or_shifted_r}
use lib.Count.{count_leading_zeros, leading_top}
use lib.Pow.{pow-add, pow_pos, pow_mono, shl_lt}
use lib.Ieee.{Float, nan, inf, fin, binary64, up, down, size, odd, fits, of_fields, of_bits, nan_bits, to_bits}
use lib.Ieee.Digits.{size-lt, size-le}
use lib.Ieee.Fits.{down_pos, kept-lt, and_r}
use lib.Ieee.Bits.{is_false, cond_no, nan_bits_above}
use lib.Ieee.Exact.{HasValue, odd_sign}

pub pow_lt_back : (i p : ℕ) → 2 ^ i < 2 ^ p → i < p
pow_lt_back i p h = lt_of_not-le (λ (g : p ≤ i). lt_irrefl (2 ^ i) (lt_of_lt_of_le h (pow_mono g)))

pub size_exact : (a n : ℕ) → 2 ^ a ≤ n → n < 2 ^ suc a → size n ≡ suc a
size_exact a n lo hi = le_antisymm (size-le n (suc a) hi) (pow_lt_back a (size n) (lt_of_le_of_lt lo (size-lt n)))

-- ---- the pattern of a value that is not negative, by its size in units

pub to_bits-of : (v : Float) (a : ℕ) → HasValue v false a (2 ^ 1074) → to_bits binary64 v ≡ (size a - 53) * 2 ^ 52 + a / 2 ^ (size a - 53)
unfolding to_bits
to_bits-of nan a h = absurd h
to_bits-of (inf b) a h = absurd h
to_bits-of (fin b m e) a h =
    let is : m * up e * 2 ^ 1074 / down e ≡ a = ap (λ (x : ℕ). x / down e) h.1 ∙ mul-div_cancel a (down_pos e) in
    ap (λ (x : ℕ). cond b (2 ^ 63) 0 + (size x - 53) * 2 ^ 52 + x / 2 ^ (size x - 53)) is
    ∙ ap (λ (c : Bool). cond c (2 ^ 63) 0 + (size a - 53) * 2 ^ 52 + a / 2 ^ (size a - 53)) h.0
    ∙ tidy ((size a - 53) * 2 ^ 52) (a / 2 ^ (size a - 53))
  where
    tidy : (x y : ℕ) → 0 + x + y ≡ x + y
    tidy x y = omega arith

-- g * 2 ^ k units, for a g of 53 digits
module _ (g k : ℕ) (lo : 2 ^ 52 ≤ g) (hi : g < 2 ^ 53) where
  g-size : size (g * 2 ^ k) - 53 ≡ k
  g-size = go (size (g * 2 ^ k)) (size_exact (52 + k) (g * 2 ^ k) (le_trans (le_of_eq (pow-add 2 52 k)) (mul-le-mul_right (2 ^ k) lo)) (subst (λ (x : ℕ). g * 2 ^ k < 2 ^ x) (one_more k) (shl_lt 53 k hi)))
    where
      one_more : (k : ℕ) → 53 + k ≡ suc (52 + k)
      one_more k = omega arith

      go : (z : ℕ) → z ≡ suc (52 + k) → z - 53 ≡ k
      go z e = omega arith

  pub pattern : (v : Float) → HasValue v false (g * 2 ^ k) (2 ^ 1074) → to_bits binary64 v ≡ k * 2 ^ 52 + g
  pattern v h =
      to_bits-of v (g * 2 ^ k) h
      ∙ ap (λ (x : ℕ). x * 2 ^ 52 + g * 2 ^ k / 2 ^ x) g-size
      ∙ ap (λ (x : ℕ). k * 2 ^ 52 + x) (mul-div_cancel g (pow_pos k))

-- ---- no NaN

-- no pattern below the infinity's is a NaN's
pub is_number : (r : ℕ) → r < 2047 * 2 ^ 52 → T (not (nan_bits binary64 r))
is_number r h = subst (λ (t : Bool). T (not t)) (sym (nan_bits_above binary64 r)) (le→nltb (2047 * 2 ^ 52) (r % 2 ^ 63) (go (r % 2 ^ 63) (mod-le r (2 ^ 63))))
  where
    go : (k : ℕ) → k ≤ r → k ≤ 2047 * 2 ^ 52
    go k l = omega arith

-- ---- the zeros

pub plus-zero : of_bits binary64 0 ≡ fin false 0 (pos 0)
unfolding of_bits
plus-zero = refl

pub minus-zero : of_bits binary64 0x8000_0000_0000_0000 ≡ fin true 0 (pos 0)
unfolding of_bits
minus-zero = refl

-- that of a positive value is below that of the infinity
pub positive-bits : (m : ℕ) (e : ℤ) → T (fits binary64 (fin false (suc m) e)) → to_bits binary64 (fin false (suc m) e) < 2047 * 2 ^ 52
unfolding to_bits fits
positive-bits m e F =
    let n = suc m * up e * 2 ^ 1074 / down e in
    let small : suc m * up e < 2 ^ 1024 * down e = ltb→lt (suc m * up e) (2 ^ 1024 * down e) (and_r (eqb (suc m % 2) 1 && ltb (suc m) (2 ^ 53) && leb (down e) (2 ^ 1074)) (ltb (suc m * up e) (2 ^ 1024 * down e)) F) in
    let n-lt : n < 2 ^ 1024 * 2 ^ 1074 = (div-lt_iff_lt-mul (down_pos e)).1 (lt_of_lt_of_le (mul-lt-mul_of_pos_right small (pow_pos 1074)) (le_of_eq (mul_right_comm (2 ^ 1024) (down e) (2 ^ 1074)))) in
    go (size n) (n / 2 ^ (size n - 53)) (size-le n 2098 n-lt) (kept-lt 53 n)
  where
    go : (z k : ℕ) → z ≤ 2098 → k < 2 ^ 53 → 0 + (z - 53) * 2 ^ 52 + k < 2047 * 2 ^ 52
    go z k a b = omega arith

-- ---- the value of a pattern below the infinity's

of_bits_is : (b : ℕ) → of_bits binary64 b ≡ of_fields binary64 (leb (2 ^ 63) b) (b % 2 ^ 63 / 2 ^ 52) (b % 2 ^ 52)
unfolding of_bits
of_bits_is b = refl

small : (b : ℕ) → b < 2047 * 2 ^ 52 → b < 2 ^ 63
small b h = omega arith

fields : (b : ℕ) → b < 2047 * 2 ^ 52 → of_bits binary64 b ≡ of_fields binary64 false (b / 2 ^ 52) (b % 2 ^ 52)
fields b h =
    of_bits_is b
    ∙ ap (λ (s : Bool). of_fields binary64 s (b % 2 ^ 63 / 2 ^ 52) (b % 2 ^ 52)) (is_false (leb (2 ^ 63) b) (lt→nleb (2 ^ 63) b (small b h)))
    ∙ ap (λ (x : ℕ). of_fields binary64 false (x / 2 ^ 52) (b % 2 ^ 52)) (mod-eq_of_lt (small b h))

low-fields : (t : ℕ) → of_fields binary64 false 0 t ≡ odd 53 false t 0 1074
unfolding of_fields
low-fields t = refl

high-fields : (x t : ℕ) → suc x < 2047 → of_fields binary64 false (suc x) t ≡ odd 53 false (2 ^ 52 + t) x 1074
unfolding of_fields
high-fields x t h = cond_no (eqb (suc x) 2047) (cond (eqb t 0) (inf false) nan) (odd 53 false (2 ^ 52 + t) x 1074) (not_T (eqb (suc x) 2047) (λ u. differ (suc x) h (eqb→eq (suc x) 2047 u)))
  where
    differ : (x : ℕ) → x < 2047 → x ≡ 2047 → ⊥
    differ x a e = omega arith

pub low_value : (b : ℕ) → b < 2 ^ 52 → HasValue (of_bits binary64 b) false b (2 ^ 1074)
low_value b h =
    subst (λ (x : Float). HasValue x false b (2 ^ 1074))
    (sym (fields b (below b h) ∙ ap (λ (x : ℕ). of_fields binary64 false x (b % 2 ^ 52)) (no_field b h) ∙ ap (λ (x : ℕ). of_fields binary64 false 0 x) (mod-eq_of_lt h) ∙ low-fields b))
    (subst (λ (a : ℕ). HasValue (odd 53 false b 0 1074) false a (2 ^ 1074)) (mul-one b) (odd_sign 53 false b 0 1074))
  where
    below : (b : ℕ) → b < 2 ^ 52 → b < 2047 * 2 ^ 52
    below b h = omega arith

    no_field : (b : ℕ) → b < 2 ^ 52 → b / 2 ^ 52 ≡ 0
    no_field b h = omega arith

high_value : (b j : ℕ) → b < 2047 * 2 ^ 52 → b / 2 ^ 52 ≡ suc j → HasValue (of_bits binary64 b) false ((2 ^ 52 + b % 2 ^ 52) * 2 ^ j) (2 ^ 1074)
high_value b j h e =
    subst (λ (x : Float). HasValue x false ((2 ^ 52 + b % 2 ^ 52) * 2 ^ j) (2 ^ 1074))
    (sym (fields b h ∙ ap (λ (x : ℕ). of_fields binary64 false x (b % 2 ^ 52)) e ∙ high-fields j (b % 2 ^ 52) (field b h e)))
    (odd_sign 53 false (2 ^ 52 + b % 2 ^ 52) j 1074)
  where
    field : (b : ℕ) → b < 2047 * 2 ^ 52 → b / 2 ^ 52 ≡ suc j → suc j < 2047
    field b h e = omega arith

-- ---- a subnormal: shifted up until it has 53 digits

module _ (b : ℕ) (pos : 0 < b) (lo : b < 2 ^ 52) where
  abbrev pub t : ℕ
  t = count_leading_zeros 64 b - 11

  -- with j digits below the highest one
  abbrev Top : Type 0
  Top = (j : ℕ) × (count_leading_zeros 64 b + suc j ≡ 64) × (2 ^ j ≤ b) × (b < 2 ^ suc j)

  top : Top
  top = leading_top 64 b pos (omega arith)

  few : top.0 < 52
  few = pow_lt_back top.0 52 (lt_of_le_of_lt top.2 lo)

  t-is : t ≡ 52 - top.0
  t-is = omega (arith, few, top.1)

  pub eleven : 11 ≤ count_leading_zeros 64 b
  eleven = omega (arith, few, top.1)

  pub t-le : t ≤ 52
  t-le = omega (arith, t-is)

  shifted-lo : 2 ^ 52 ≤ b * 2 ^ t
  shifted-lo = le_trans (le_of_eq (ap (λ (k : ℕ). 2 ^ k) join ∙ pow-add 2 top.0 t)) (mul-le-mul_right (2 ^ t) top.2)
    where
      join : 52 ≡ top.0 + t
      join = omega (arith, t-is, few)

  shifted-hi : b * 2 ^ t < 2 ^ 53
  shifted-hi = subst (λ (k : ℕ). b * 2 ^ t < 2 ^ k) join (shl_lt (suc top.0) t top.3)
    where
      join : suc top.0 + t ≡ 53
      join = omega (arith, t-is, few)

  pub kept : b * 2 ^ t % 2 ^ 64 ≡ b * 2 ^ t
  kept = mod-eq_of_lt (lt_of_lt_of_le shifted-hi (pow_mono {i = 53} {j = 64} (lib.Dec.lit≤ tt)))

  pub low-asked : (2 ^ 52 ≤ b * 2 ^ t % 2 ^ 64) × (b * 2 ^ t % 2 ^ 64 < 2 ^ 53)
  low-asked = (subst (λ (k : ℕ). 2 ^ 52 ≤ k) (sym kept) shifted-lo, subst (λ (k : ℕ). k < 2 ^ 53) (sym kept) shifted-hi)

  -- the shift is made good by the exponent
  pub low-all : (a e : ℕ) → t + e ≡ a → b * 2 ^ t % 2 ^ 64 * 2 ^ e ≡ b * 2 ^ a
  low-all a e h =
      ap (λ (k : ℕ). k * 2 ^ e) kept
      ∙ mul_assoc b (2 ^ t) (2 ^ e)
      ∙ ap (λ (k : ℕ). b * k) (sym (pow-add 2 t e) ∙ ap (λ (k : ℕ). 2 ^ k) h)

-- ---- a normal value

module _ (b : ℕ) (some : b / 2 ^ 52 ≡ 0 → ⊥) (hi : b < 2047 * 2 ^ 52) where
  abbrev pub sig : ℕ
  sig = bit_or (bit_and b (2 ^ 52 - 1)) (2 ^ 52)

  pub sig-is : sig ≡ 2 ^ 52 + b % 2 ^ 52
  sig-is = ap (λ (k : ℕ). bit_or k (2 ^ 52)) (and_mask b 52) ∙ or_shifted_r 1 52 (b % 2 ^ 52) (mod-lt b (pow_pos 52))

  pub high-asked : (2 ^ 52 ≤ sig) × (sig < 2 ^ 53)
  high-asked = (omega (arith, sig-is), omega (arith, sig-is))

  abbrev pub j : ℕ
  j = b / 2 ^ 52 - 1

  field : (f : ℕ) → (f ≡ 0 → ⊥) → f ≡ suc (f - 1)
  field f n = omega arith

  abbrev pub val : ℕ
  val = (2 ^ 52 + b % 2 ^ 52) * 2 ^ j

  pub val_pos : 0 < val
  val_pos = mul-pos (plus b) (pow_pos j)
    where
      plus : (b : ℕ) → 0 < 2 ^ 52 + b % 2 ^ 52
      plus b = omega arith

  pub val_is : HasValue (of_bits binary64 b) false val (2 ^ 1074)
  val_is = high_value b j hi (field (b / 2 ^ 52) some)

  pub high-all : (a e : ℕ) → e ≡ j + a → sig * 2 ^ e ≡ val * 2 ^ a
  high-all a e h =
      ap (λ (k : ℕ). k * 2 ^ e) sig-is
      ∙ ap (λ (k : ℕ). (2 ^ 52 + b % 2 ^ 52) * 2 ^ k) h
      ∙ ap (λ (k : ℕ). (2 ^ 52 + b % 2 ^ 52) * k) (pow-add 2 j a)
      ∙ sym (mul_assoc (2 ^ 52 + b % 2 ^ 52) (2 ^ j) (2 ^ a))
