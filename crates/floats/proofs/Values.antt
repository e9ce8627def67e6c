-- A comparison of floats as one of the fractions that they equal, and the library's words for finiteness and sign. Assumes nothing.
use mathlib.Core.Path.{◌≡◌, refl, sym, ap, ap₂, ◌∙◌, subst}
use Prim.Native.Nat.{ℕ, ◌+◌, ◌*◌, ◌^◌, ◌≤◌, ◌<◌}
use native.Mathlib.Nat.{le_trans, le_of_eq, mul_comm, mul_assoc, mul_left_comm, mul-le-mul_right, le_of_mul-le-mul_right, mul-pos, zero-mul, add-mul, mul-one, mul-mul-mul_comm, eq-zero-or-pos, lt_irrefl}
use mathlib.Core.Logic.{inl, inr}
use native.Mathlib.Omega.{arith}
use mathlib.Core.Bool.{Bool, true, false, ◌&&◌, ◌||◌, beq, false≢true}
use lib.IntN.{ℤ, pos}
use lib.Dec.{T, leb, ltb, eqb, leb→le, le→leb, eqb→eq, lit<}
use lib.Ieee.{Float, nan, inf, fin, up, down, below, level, le, eq, is_nan}
use lib.Ieee.Fits.{down_pos, eq→eqb}
use lib.Ieee.Exact.{HasValue}
use lib.Ieee.Scale.{finite}
use Rattle.std.specs.Float.{float_is_finite, is_sign_negative}
use Rattle.floats.specs.Value.{at_most, negative}
use borrow.Author.Tests.{ltb-true, ltb-false, leb-true, leb-false, eqb-true, eqb-false}

-- two tests that each follow from the other
pub same : (x y : Bool) → (T x → T y) → (T y → T x) → x ≡ y
same true true f g = refl
same true false f g = absurd (f tt)
same false true f g = absurd (g tt)
same false false f g = refl

pub same-le : (a b c d : ℕ) → (a ≤ b → c ≤ d) → (c ≤ d → a ≤ b) → leb a b ≡ leb c d
same-le a b c d f g = same (leb a b) (leb c d) (λ t. le→leb c d (f (leb→le a b t))) (λ t. le→leb a b (g (leb→le c d t)))

-- ±a ≤ ±b
abbrev pub signed_le : Bool → ℕ → Bool → ℕ → Bool
signed_le false a false b = leb a b
signed_le false a true b = leb (a + b) 0
signed_le true a false b = true
signed_le true a true b = leb b a

le_is : (a b : ℕ) (w : Bool) → (ltb a b || (eqb a b && (true || w))) ≡ leb a b
le_is a b w = go (leb a b) (eqb a b) (ltb a b) refl refl refl
  where
    go : (x y z : Bool) → leb a b ≡ x → eqb a b ≡ y → ltb a b ≡ z → (z || (y && (true || w))) ≡ x
    go true y true p q r = refl
    go true true false p q r = refl
    go true false false p q r = absurd (eqb-false a b q (omega (arith, leb-true a b p, ltb-false a b r)))
    go false y true p q r = absurd (omega (arith, leb-false a b p, ltb-true a b r))
    go false true false p q r = absurd (omega (arith, leb-false a b p, eqb-true a b q))
    go false false false p q r = refl

eqb_swap : (a b : ℕ) → eqb a b ≡ eqb b a
eqb_swap a b = same (eqb a b) (eqb b a) (λ t. eq→eqb (sym (eqb→eq a b t))) (λ t. eq→eqb (sym (eqb→eq b a t)))

both_zero : (a b : ℕ) → (false || (eqb a b && (false || eqb a 0))) ≡ leb (a + b) 0
both_zero a b = go (eqb a b) (eqb a 0) (leb (a + b) 0) refl refl refl
  where
    go : (x y z : Bool) → eqb a b ≡ x → eqb a 0 ≡ y → leb (a + b) 0 ≡ z → (false || (x && (false || y))) ≡ z
    go true true true p q r = refl
    go true true false p q r = absurd (omega (arith, eqb-true a b p, eqb-true a 0 q, leb-false (a + b) 0 r))
    go true false true p q r = absurd (eqb-false a 0 q (omega (arith, leb-true (a + b) 0 r)))
    go true false false p q r = refl
    go false y true p q r = absurd (eqb-false a b p (omega (arith, leb-true (a + b) 0 r)))
    go false y false p q r = refl

always : (a b : ℕ) → (ltb 0 (a + b) || (eqb a b && (false || eqb a 0))) ≡ true
always a b = go (ltb 0 (a + b)) (eqb a b) (eqb a 0) refl refl refl
  where
    go : (x y z : Bool) → ltb 0 (a + b) ≡ x → eqb a b ≡ y → eqb a 0 ≡ z → (x || (y && (false || z))) ≡ true
    go true y z p q r = refl
    go false true true p q r = refl
    go false false z p q r = absurd (eqb-false a b q (omega (arith, ltb-false 0 (a + b) p)))
    go false true false p q r = absurd (eqb-false a 0 r (omega (arith, ltb-false 0 (a + b) p)))

signed_le-is : (s t : Bool) (a b : ℕ) → (below s a t b || level s a t b) ≡ signed_le s a t b
signed_le-is false false a b = le_is a b (eqb a 0)
signed_le-is true true a b = ap (λ (w : Bool). ltb b a || (w && (true || eqb a 0))) (eqb_swap a b) ∙ le_is b a (eqb a 0)
signed_le-is false true a b = both_zero a b
signed_le-is true false a b = always a b

pub le-fin : (s : Bool) (m : ℕ) (e : ℤ) (t : Bool) (n : ℕ) (d : ℤ) → le (fin s m e) (fin t n d) ≡ signed_le s (m * up e * down d) t (n * up d * down e)
unfolding le
le-fin s m e t n d = signed_le-is s t (m * up e * down d) (n * up d * down e)

-- the same order at another scale
scaled : (a b a' b' k l : ℕ) → 0 < k → 0 < l → a * k ≡ a' * l → b * k ≡ b' * l → a ≤ b → a' ≤ b'
scaled a b a' b' k l K L p q h =
    let r : a' * l ≤ b' * l = le_trans (le_of_eq (sym p)) (le_trans (mul-le-mul_right k h) (le_of_eq q)) in
    le_of_mul-le-mul_right r L

pub leb-scaled : (a b a' b' k l : ℕ) → 0 < k → 0 < l → a * k ≡ a' * l → b * k ≡ b' * l → leb a b ≡ leb a' b'
leb-scaled a b a' b' k l K L p q = same-le a b a' b' (scaled a b a' b' k l K L p q) (scaled a' b' a b l k L K (sym p) (sym q))

signed-scaled : (s t : Bool) (a b a' b' k l : ℕ) → 0 < k → 0 < l → a * k ≡ a' * l → b * k ≡ b' * l → signed_le s a t b ≡ signed_le s a' t b'
signed-scaled false false a b a' b' k l K L p q = leb-scaled a b a' b' k l K L p q
signed-scaled false true a b a' b' k l K L p q = leb-scaled (a + b) 0 (a' + b') 0 k l K L (add-mul a b k ∙ ap₂ (λ (x y : ℕ). x + y) p q ∙ sym (add-mul a' b' l)) (zero-mul k ∙ sym (zero-mul l))
signed-scaled true false a b a' b' k l K L p q = refl
signed-scaled true true a b a' b' k l K L p q = leb-scaled b a b' a' k l K L q p

-- the order of two floats by any fractions a / c and b / d that they equal
pub le-values : (x y : Float) (s : Bool) (a c : ℕ) (t : Bool) (b d : ℕ) → 0 < c → 0 < d → HasValue x s a c → HasValue y t b d → le x y ≡ signed_le s (a * d) t (b * c)
le-values nan y s a c t b d C D v w = elim v [ ]
le-values (inf _) y s a c t b d C D v w = elim v [ ]
le-values (fin s' m e) nan s a c t b d C D v w = elim w [ ]
le-values (fin s' m e) (inf _) s a c t b d C D v w = elim w [ ]
le-values (fin s' m e) (fin t' n g) s a c t b d C D v w =
    le-fin s' m e t' n g
    ∙ ap₂ (λ (x y : Bool). signed_le x (m * up e * down g) y (n * up g * down e)) v.0 w.0
    ∙ signed-scaled s t (m * up e * down g) (n * up g * down e) (a * d) (b * c) (c * d) (down e * down g) (mul-pos C D) (mul-pos (down_pos e) (down_pos g))
    (cross (m * up e) (down g) c d a (down e) v.1)
    (ap (λ (z : ℕ). n * up g * down e * z) (mul_comm c d) ∙ cross (n * up g) (down e) d c b (down g) w.1 ∙ ap (λ (z : ℕ). b * c * z) (mul_comm (down g) (down e)))
  where
    cross : (x g c d a e : ℕ) → x * c ≡ a * e → x * g * (c * d) ≡ a * d * (e * g)
    cross x g c d a e h = mul-mul-mul_comm x g c d ∙ ap (λ (z : ℕ). z * (g * d)) h ∙ simp (mul_assoc, mul_comm, mul_left_comm)

-- a finite float's own fraction
pub own : (s : Bool) (m : ℕ) (e : ℤ) → HasValue (fin s m e) s (m * up e) (down e)
own s m e = (refl, refl)

-- ---- at most n in size, by two comparisons with ±n
and-true : (x : Bool) → (x && true) ≡ x
and-true true = refl
and-true false = refl

pub between : (x : Float) (N k n : ℕ) → N * 2 ^ k * 1 ≡ n * 1 → (le x (fin false N (pos k)) && le (fin true N (pos k)) x) ≡ at_most n x
unfolding le
between nan N k n h = refl
between (inf true) N k n h = refl
between (inf false) N k n h = refl
between (fin true m e) N k n h =
    ap₂ (λ (a b : Bool). a && b)
    (le-values (fin true m e) (fin false N (pos k)) true (m * up e) (down e) false n 1 (down_pos e) (lit< tt) (own true m e) (refl, h))
    (le-values (fin true N (pos k)) (fin true m e) true n 1 true (m * up e) (down e) (lit< tt) (down_pos e) (refl, h) (own true m e))
    ∙ ap (λ (z : ℕ). leb z (n * down e)) (mul-one (m * up e))
between (fin false m e) N k n h =
    ap₂ (λ (a b : Bool). a && b)
    (le-values (fin false m e) (fin false N (pos k)) false (m * up e) (down e) false n 1 (down_pos e) (lit< tt) (own false m e) (refl, h))
    (le-values (fin true N (pos k)) (fin false m e) true n 1 false (m * up e) (down e) (lit< tt) (down_pos e) (refl, h) (own false m e))
    ∙ and-true (leb (m * up e * 1) (n * down e))
    ∙ ap (λ (z : ℕ). leb z (n * down e)) (mul-one (m * up e))

-- ---- a float by its value against zero
pub none-pos : (P c a D : ℕ) → 0 < c → P * c ≡ a * D → a ≡ 0 → P ≡ 0
none-pos P c a D C h z = elim (eq-zero-or-pos P) [
  | inl e ↦ e
  | inr p ↦ absurd (lt_irrefl 0 (subst (λ (x : ℕ). 0 < x) (h ∙ ap (λ (x : ℕ). x * D) z ∙ zero-mul D) (mul-pos p C)))
]

pub zero-iff : (P c a D : ℕ) → 0 < c → 0 < D → P * c ≡ a * D → eqb P 0 ≡ eqb a 0
zero-iff P c a D C D' h = same (eqb P 0) (eqb a 0) (λ t. eq→eqb (none-pos a D P c D' (sym h) (eqb→eq P 0 t))) (λ t. eq→eqb (none-pos P c a D C h (eqb→eq a 0 t)))

level-zero : (t x : Bool) → (x && (beq t false || x)) ≡ x
level-zero true true = refl
level-zero true false = refl
level-zero false true = refl
level-zero false false = refl

pub zero_test : (x : Float) (s : Bool) (a c : ℕ) → 0 < c → HasValue x s a c → eq x (fin false 0 (pos 0)) ≡ eqb a 0
unfolding eq
zero_test nan s a c C v = elim v [ ]
zero_test (inf _) s a c C v = elim v [ ]
zero_test (fin t m e) s a c C v =
    let p : m * up e * 1 * c ≡ a * down e = ap (λ (x : ℕ). x * c) (mul-one (m * up e)) ∙ v.1 in
    rw (zero-mul (down e)) (level-zero t (eqb (m * up e * 1) 0) ∙ zero-iff (m * up e * 1) c a (down e) C (down_pos e) p)

-- ---- the library's words for a float

pub finite_is : (x : Float) → float_is_finite x ≡ finite x
unfolding float_is_finite
finite_is nan = refl
finite_is (inf s) = refl
finite_is (fin s m e) = refl

pub negative_is : (x : Float) → is_sign_negative x ≡ negative x
unfolding is_sign_negative
negative_is nan = refl
negative_is (inf s) = refl
negative_is (fin s m e) = refl

-- a NaN has no sign
pub nan_plain : (x : Float) → is_nan x ≡ true → false ≡ negative x
unfolding is_nan
nan_plain nan h = refl
nan_plain (inf s) h = absurd (false≢true h)
nan_plain (fin s m e) h = absurd (false≢true h)
