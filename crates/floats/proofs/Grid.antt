-- The values that a float holds, as whole numbers of units of 2 ^ -1074: k * 2 ^ p, with a k below 2 ^ 53. Two floats that are not negative are equal where
-- their counts are. Assumes nothing.
use mathlib.Core.Path.{◌≡◌, refl, sym, ap, ◌∙◌, subst}
use Prim.Native.Nat.{ℕ, zero, suc, ◌+◌, ◌-◌, ◌*◌, ◌/◌, ◌%◌, ◌^◌, ◌≤◌, ◌<◌}
use native.Mathlib.Nat.{le_trans, le_of_eq, le_of_lt, le_of_suc-le-suc, le_antisymm, lt_irrefl, lt_of_lt_of_le, lt_of_not-le, mul-one, zero-mul, mul_assoc, mul-le-mul, mul-le-mul_right, lt_of_mul-lt-mul_right, mul-pos, mul-div_cancel, mul_right_comm, mul-lt-mul_of_pos_right, div-lt_iff_lt-mul, pow-succ'}
use native.Mathlib.Omega.{arith}
use mathlib.Core.Bool.{Bool, true, false, not, ◌&&◌}
use lib.IntN.{ℤ, pos, negsuc}
use lib.Dec.{T, leb, ltb, eqb, leb→le, ltb→lt, nltb→le, lit≤}
use lib.Pow.{pow-add, pow_pos, pow_mono, pow-lt}
use lib.Ieee.{Float, nan, inf, fin, binary64, up, down, size, fits, of_bits}
use lib.Ieee.Fits.{and_l, and_r, up_pos, down_pos}
use lib.Ieee.Bits.{of_bits-to_bits}
use lib.Ieee.Exact.{HasValue}
use Rattle.floats.specs.Value.{in_units, count}
use Rattle.floats.specs.Root.{plain}
use Rattle.floats.proofs.Patterns.{to_bits-of}

pow_le_back : (a l : ℕ) → 2 ^ a ≤ 2 ^ l → a ≤ l
pow_le_back a l h = le_of_suc-le-suc (lt_of_not-le (λ (g : suc l ≤ a). lt_irrefl (2 ^ l) (lt_of_lt_of_le (pow-lt g) h)))

pub Grid : ℕ → ℤ → Type 0
Grid n d = (k : ℕ) × (p : ℕ) × (k < 2 ^ 53) × (in_units n d ≡ k * 2 ^ p) × (n * up d * 2 ^ 1074 ≡ in_units n d * down d)

from : (n : ℕ) (d : ℤ) (p : ℕ) → n < 2 ^ 53 → n * up d * 2 ^ 1074 ≡ n * 2 ^ p * down d → Grid n d
unfolding Grid in_units
from n d p h e =
    let is : n * up d * 2 ^ 1074 / down d ≡ n * 2 ^ p = ap (λ (x : ℕ). x / down d) e ∙ mul-div_cancel (n * 2 ^ p) (down_pos d) in
    (n, p, h, is, e ∙ ap (λ (x : ℕ). x * down d) (sym is))

grid : (s : Bool) (n : ℕ) (d : ℤ) → T (fits binary64 (fin s n d)) → Grid n d
unfolding fits
grid s zero d F = from 0 d 0 (lit≤ tt) (ap (λ (x : ℕ). x * 2 ^ 1074) (zero-mul (up d)) ∙ zero-mul (2 ^ 1074) ∙ sym (zero-mul (down d)))
grid s (suc n) d F =
    let A = eqb (suc n % 2) 1 in
    let B = ltb (suc n) (2 ^ 53) in
    let C = leb (down d) (2 ^ 1074) in
    let D = ltb (suc n * up d) (2 ^ 1024 * down d) in
    at d (ltb→lt (suc n) (2 ^ 53) (and_r A B (and_l (A && B) C (and_l (A && B && C) D F)))) (leb→le (down d) (2 ^ 1074) (and_r (A && B) C (and_l (A && B && C) D F)))
  where
    join : (a : ℕ) → suc a ≤ 1074 → 1074 - suc a + suc a ≡ 1074
    join a h = omega arith

    at : (d : ℤ) → suc n < 2 ^ 53 → down d ≤ 2 ^ 1074 → Grid (suc n) d
    at (pos a) h l = from (suc n) (pos a) (a + 1074) h (mul_assoc (suc n) (2 ^ a) (2 ^ 1074) ∙ ap (λ (x : ℕ). suc n * x) (sym (pow-add 2 a 1074)) ∙ sym (mul-one (suc n * 2 ^ (a + 1074))))
    at (negsuc a) h l =
        let le : suc a ≤ 1074 = pow_le_back (suc a) 1074 l in
        from (suc n) (negsuc a) (1074 - suc a) h
        (ap (λ (x : ℕ). x * 2 ^ 1074) (mul-one (suc n))
        ∙ ap (λ (x : ℕ). suc n * 2 ^ x) (sym (join a le))
        ∙ ap (λ (x : ℕ). suc n * x) (pow-add 2 (1074 - suc a) (suc a))
        ∙ sym (mul_assoc (suc n) (2 ^ (1074 - suc a)) (2 ^ suc a)))

-- among the multiples of 2 ^ i from 2 ^ 52 of them on there are no others
pub gap : (G i k p : ℕ) → 2 ^ 52 ≤ G → k < 2 ^ 53 → k * 2 ^ p < (G + 1) * 2 ^ i → k * 2 ^ p ≤ G * 2 ^ i
gap G i k p g h l = go (ltb p i) (ltb→lt p i) (nltb→le p i)
  where
    back : i ≤ p → p - i + i ≡ p
    back x = omega arith

    under : {a b : ℕ} → a < b + 1 → a ≤ b
    under x = omega arith

    go : (c : Bool) → (T c → p < i) → (T (not c) → i ≤ p) → k * 2 ^ p ≤ G * 2 ^ i
    go true a b =
        le_trans (mul-le-mul_right (2 ^ p) (le_of_lt h))
        (le_trans (le_of_eq (mul_assoc (2 ^ 52) 2 (2 ^ p) ∙ ap (λ (x : ℕ). 2 ^ 52 * x) (sym (pow-succ' 2 p))))
        (mul-le-mul g (pow_mono (a tt))))
    go false a b =
        let c = k * 2 ^ (p - i) in
        let is : k * 2 ^ p ≡ c * 2 ^ i = ap (λ (x : ℕ). k * 2 ^ x) (sym (back (b tt))) ∙ ap (λ (x : ℕ). k * x) (pow-add 2 (p - i) i) ∙ sym (mul_assoc k (2 ^ (p - i)) (2 ^ i)) in
        le_trans (le_of_eq is) (mul-le-mul_right (2 ^ i) (under (lt_of_mul-lt-mul_right (2 ^ i) (subst (λ (x : ℕ). x < (G + 1) * 2 ^ i) is l))))

-- the size of a value in units is the one that `count` gives
pub count-is : (x : Float) (a : ℕ) → HasValue x false a (2 ^ 1074) → count x ≡ a
unfolding in_units
count-is nan a h = absurd h
count-is (inf s) a h = absurd h
count-is (fin s m e) a h = ap (λ (x : ℕ). x / down e) h.1 ∙ mul-div_cancel a (down_pos e)

pub own_value : (x : Float) → T (fits binary64 x) → T (plain x) → HasValue x false (count x) (2 ^ 1074)
unfolding Grid
own_value nan F p = absurd p
own_value (inf s) F p = absurd p
own_value (fin true m e) F p = absurd p
own_value (fin false m e) F p = (refl, (grid false m e F).4)

-- a positive float is at least one unit, and less than 2 ^ 2098 units
pub count-lt : (m : ℕ) (e : ℤ) → T (fits binary64 (fin false (suc m) e)) → in_units (suc m) e < 2 ^ 1024 * 2 ^ 1074
unfolding fits in_units
count-lt m e F =
    let small : suc m * up e < 2 ^ 1024 * down e = ltb→lt (suc m * up e) (2 ^ 1024 * down e) (and_r (eqb (suc m % 2) 1 && ltb (suc m) (2 ^ 53) && leb (down e) (2 ^ 1074)) (ltb (suc m * up e) (2 ^ 1024 * down e)) F) in
    (div-lt_iff_lt-mul (down_pos e)).1 (lt_of_lt_of_le (mul-lt-mul_of_pos_right small (pow_pos 1074)) (le_of_eq (mul_right_comm (2 ^ 1024) (down e) (2 ^ 1074))))

pub plain_of : (x : Float) (a : ℕ) → HasValue x false a (2 ^ 1074) → T (plain x)
plain_of nan a h = absurd h
plain_of (inf s) a h = absurd h
plain_of (fin s m e) a h = subst (λ (b : Bool). T (not b)) (sym h.0) tt

pub on-grid : (y : Float) → T (fits binary64 y) → T (plain y) → (k : ℕ) × (p : ℕ) × (k < 2 ^ 53) × (count y ≡ k * 2 ^ p)
unfolding Grid
on-grid nan F q = absurd q
on-grid (inf s) F q = absurd q
on-grid (fin s n d) F q = let w = grid s n d F in (w.0, w.1, w.2, w.3)

pub above_zero : (m : ℕ) (e : ℤ) (a : ℕ) → HasValue (fin false (suc m) e) false a (2 ^ 1074) → 0 < a
above_zero m e zero h = absurd (lt_irrefl 0 (lt_of_lt_of_le (mul-pos (mul-pos (native.Mathlib.Nat.zero-lt-suc m) (up_pos e)) (pow_pos 1074)) (le_of_eq (h.1 ∙ zero-mul (down e)))))
above_zero m e (suc a) h = native.Mathlib.Nat.zero-lt-suc a

-- two values that are not negative are equal where their counts are
pub by_count : (r r' : Float) → T (fits binary64 r) → T (plain r) → T (fits binary64 r') → T (plain r') → count r ≡ count r' → r ≡ r'
by_count r r' F p F' p' same =
    sym (of_bits-to_bits binary64 r F)
    ∙ ap (of_bits binary64) (to_bits-of r (count r) (own_value r F p) ∙ ap (λ (k : ℕ). (size k - 53) * 2 ^ 52 + k / 2 ^ (size k - 53)) same ∙ sym (to_bits-of r' (count r') (own_value r' F' p')))
    ∙ of_bits-to_bits binary64 r' F'

pub neither-less : (p q : ℕ) → (p < q → ⊥) → (q < p → ⊥) → p ≡ q
neither-less p q f g = le_antisymm (le_of_suc-le-suc (lt_of_not-le g)) (le_of_suc-le-suc (lt_of_not-le f))
