-- `floor_of` is the greatest whole number that is not above x: its value is the fraction cut down, or up where x is negative, and comparisons of floats are those
-- of the fractions that they equal. Assumes nothing.
use mathlib.Core.Path.{◌≡◌, refl, sym, ap, ◌∙◌, subst}
use Prim.Native.Nat.{ℕ, zero, suc, ◌+◌, ◌-◌, ◌*◌, ◌/◌, ◌%◌, ◌^◌, ◌≤◌, ◌<◌}
use native.Mathlib.Nat.{le_refl, le_trans, le_of_eq, le_of_lt, lt_of_lt_of_le, lt_of_le_of_lt, lt_irrefl, not-le_of_lt, zero-lt-suc, mul-one, zero-mul, mul_assoc, mul-pos, mul-mod_left, mul-lt-mul_of_pos_right, div-one, div-le_self, div-mul-le_self, div-add-mod', div-lt_iff_lt-mul, le-div_iff_mul-le, zero-mod, add-mul, one-mul}
use native.Mathlib.Omega.{arith}
use mathlib.Core.Bool.{Bool, true, false, ◌&&◌}
use lib.IntN.{ℤ, pos, negsuc}
use lib.Dec.{T, leb, ltb, eqb, eqb→eq, ltb→lt}
use lib.Pow.{pow-add, pow_pos}
use lib.Ieee.{Float, nan, inf, fin, binary64, up, down, round, le, fits}
use lib.Ieee.Fits.{and_l, and_r, up_pos, down_pos, eq→eqb}
use lib.Ieee.Exact.{HasValue, round_exact}
use lib.Ieee.Back.{round_whole}
use lib.Ieee.Scale.{finite}
use borrow.Author.Tests.{leb-true, le-leb}
use Rattle.floats.specs.Floor.{floor_of, whole, FloorGreatest}
use Rattle.floats.proofs.Values.{signed_le, le-values, own}

-- ---- a fraction a / d cut down, and cut up

ceil : ℕ → ℕ → ℕ
ceil a d = (a + (d - 1)) / d

ceil-ge : (a d : ℕ) → 0 < d → a ≤ ceil a d * d
unfolding ceil
ceil-ge a d D =
    let n = a + (d - 1) in
    let q = n / d in
    let less : n < (q + 1) * d = (div-lt_iff_lt-mul D).0 (next q) in
    omega (arith, add-mul q 1 d)
  where
    next : (q : ℕ) → q < q + 1
    next q = omega arith

ceil-le : (a d q : ℕ) → 0 < d → a ≤ q * d → ceil a d ≤ q
unfolding ceil
ceil-le a d q D h = under ((div-lt_iff_lt-mul {x = a + (d - 1)} {y = q + 1} D).1 (omega (arith, add-mul q 1 d)))
  where
    under : {n : ℕ} → n < q + 1 → n ≤ q
    under x = omega arith

-- ---- the value of the floor

abbrev cut : Bool → ℕ → ℕ → ℕ
cut false a d = a / d
cut true a d = ceil a d

floor-is : (s : Bool) (m : ℕ) (e : ℤ) → floor_of (fin s (suc m) e) ≡ round binary64 s (cut s (suc m * up e) (down e)) 1
unfolding floor_of ceil
floor-is false m e = refl
floor-is true m e = refl

-- with no fraction there is nothing to cut
cut-one : (s : Bool) (a : ℕ) → cut s a 1 ≡ a
unfolding ceil
cut-one false a = div-one a
cut-one true a = div-one (a + (1 - 1)) ∙ go a
  where
    go : (a : ℕ) → a + (1 - 1) ≡ a
    go a = omega arith

cut-le : (s : Bool) (a d : ℕ) → 0 < d → cut s a d ≤ a
cut-le false a d D = div-le_self a d
cut-le true a d D = ceil-le a d a D (le_trans (le_of_eq (sym (mul-one a))) (native.Mathlib.Nat.mul-le-mul (le_refl a) D))

fits-says : (s : Bool) (m : ℕ) (e : ℤ) → T (fits binary64 (fin s (suc m) e)) → (suc m < 2 ^ 53) × (suc m * up e < 2 ^ 1024 * down e)
unfolding fits
fits-says s m e F =
    let a = eqb (suc m % 2) 1 in
    let b = ltb (suc m) (2 ^ 53) in
    let c = leb (down e) (2 ^ 1074) in
    let d = ltb (suc m * up e) (2 ^ 1024 * down e) in
    (ltb→lt (suc m) (2 ^ 53) (and_r a b (and_l (a && b) c (and_l (a && b && c) d F))), ltb→lt (suc m * up e) (2 ^ 1024 * down e) (and_r (a && b && c) d F))

cut-value : (s : Bool) (m : ℕ) (e : ℤ) → T (fits binary64 (fin s (suc m) e)) → HasValue (round binary64 s (cut s (suc m * up e) (down e)) 1) s (cut s (suc m * up e) (down e)) 1
cut-value s m (pos k) F =
    let w = fits-says s m (pos k) F in
    let n = suc m * 2 ^ k in
    let scaled : n * 2 ^ 1074 ≡ suc m * 2 ^ (k + 1074) = mul_assoc (suc m) (2 ^ k) (2 ^ 1074) ∙ ap (λ (x : ℕ). suc m * x) (sym (pow-add 2 k 1074)) in
    let fine : suc m * 2 ^ (k + 1074) < 2 ^ 1024 * 2 ^ 1074 = lt_of_le_of_lt (le_of_eq (sym scaled)) (mul-lt-mul_of_pos_right (lt_of_lt_of_le w.1 (le_of_eq (mul-one (2 ^ 1024)))) (pow_pos 1074)) in
    subst (λ (c : ℕ). HasValue (round binary64 s c 1) s c 1) (sym (cut-one s n)) (round_exact binary64 s n 1 (suc m) (k + 1074) (zero-lt-suc 0) w.0 fine (scaled ∙ sym (mul-one (suc m * 2 ^ (k + 1074)))))
cut-value s m (negsuc k) F = round_whole binary64 s (cut s (suc m * 1) (2 ^ suc k)) (le_trans (cut-le s (suc m * 1) (2 ^ suc k) (pow_pos (suc k))) (le_trans (le_of_eq (mul-one (suc m))) (le_of_lt (fits-says s m (negsuc k) F).0)))

floor-value : (s : Bool) (m : ℕ) (e : ℤ) → T (fits binary64 (fin s (suc m) e)) → HasValue (floor_of (fin s (suc m) e)) s (cut s (suc m * up e) (down e)) 1
floor-value s m e F = subst (λ (v : Float). HasValue v s (cut s (suc m * up e) (down e)) 1) (sym (floor-is s m e)) (cut-value s m e F)

zero-floor : (s : Bool) (e : ℤ) → floor_of (fin s zero e) ≡ fin s zero e
unfolding floor_of
zero-floor s e = refl

-- ---- whole numbers

of-value : (v : Float) (s : Bool) (n : ℕ) → HasValue v s n 1 → T (whole v)
of-value nan s n h = absurd h
of-value (inf t) s n h = absurd h
of-value (fin t m e) s n h = eq→eqb (ap (λ (x : ℕ). x % down e) (sym (mul-one (m * up e)) ∙ h.1) ∙ mul-mod_left n (down e))

value_of : (t : Bool) (m : ℕ) (e : ℤ) → T (whole (fin t m e)) → HasValue (fin t m e) t (m * up e / down e) 1
value_of t m e w = (refl, mul-one (m * up e) ∙ sym (div-add-mod' (m * up e) (down e)) ∙ ap (λ (r : ℕ). m * up e / down e * down e + r) (eqb→eq (m * up e % down e) 0 w) ∙ plus (m * up e / down e * down e))
  where
    plus : (a : ℕ) → a + 0 ≡ a
    plus a = omega arith

-- ---- the three parts

le-self : (x : Float) → T (finite x) → le x x ≡ true
le-self nan p = absurd p
le-self (inf s) p = absurd p
le-self (fin s m e) p = le-values (fin s m e) (fin s m e) s (m * up e) (down e) s (m * up e) (down e) (down_pos e) (down_pos e) (own s m e) (own s m e) ∙ go s
  where
    go : (s : Bool) → signed_le s (m * up e * down e) s (m * up e * down e) ≡ true
    go true = le-leb (m * up e * down e) (m * up e * down e) (le_refl (m * up e * down e))
    go false = le-leb (m * up e * down e) (m * up e * down e) (le_refl (m * up e * down e))

whole_part : (x : Float) → T (fits binary64 x) → T (finite x) → T (whole (floor_of x))
whole_part nan F p = absurd p
whole_part (inf s) F p = absurd p
whole_part (fin s zero e) F p = subst (λ (v : Float). T (whole v)) (sym (zero-floor s e)) (eq→eqb (ap (λ (x : ℕ). x % down e) (zero-mul (up e)) ∙ zero-mod (down e)))
whole_part (fin s (suc m) e) F p = of-value (floor_of (fin s (suc m) e)) s (cut s (suc m * up e) (down e)) (floor-value s m e F)

below-x : (x : Float) → T (fits binary64 x) → T (finite x) → le (floor_of x) x ≡ true
below-x nan F p = absurd p
below-x (inf s) F p = absurd p
below-x (fin s zero e) F p = ap (λ (v : Float). le v (fin s zero e)) (zero-floor s e) ∙ le-self (fin s zero e) tt
below-x (fin s (suc m) e) F p =
    let a = suc m * up e in
    le-values (floor_of (fin s (suc m) e)) (fin s (suc m) e) s (cut s a (down e)) 1 s a (down e) (zero-lt-suc 0) (down_pos e) (floor-value s m e F) (own s (suc m) e) ∙ go s a
  where
    go : (s : Bool) (a : ℕ) → signed_le s (cut s a (down e) * down e) s (a * 1) ≡ true
    go false a = le-leb (a / down e * down e) (a * 1) (le_trans (div-mul-le_self a (down e)) (le_of_eq (sym (mul-one a))))
    go true a = le-leb (a * 1) (ceil a (down e) * down e) (le_trans (le_of_eq (mul-one a)) (ceil-ge a (down e) (down_pos e)))

above-all : (x y : Float) → T (fits binary64 x) → T (finite x) → T (whole y) → le y x ≡ true → le y (floor_of x) ≡ true
above-all nan y F p w h = absurd p
above-all (inf s) y F p w h = absurd p
above-all (fin s m e) nan F p w h = absurd w
above-all (fin s m e) (inf t) F p w h = absurd w
above-all (fin s zero e) (fin t n d) F p w h = ap (λ (v : Float). le (fin t n d) v) (zero-floor s e) ∙ h
above-all (fin s (suc m) e) (fin t n d) F p w h =
    let a = suc m * up e in
    let q = n * up d / down d in
    let v = value_of t n d w in
    le-values (fin t n d) (floor_of (fin s (suc m) e)) t q 1 s (cut s a (down e)) 1 (zero-lt-suc 0) (zero-lt-suc 0) v (floor-value s m e F)
    ∙ go t s a q (mul-pos (zero-lt-suc m) (up_pos e)) (sym (le-values (fin t n d) (fin s (suc m) e) t q 1 s a (down e) (zero-lt-suc 0) (down_pos e) v (own s (suc m) e)) ∙ h)
  where
    go : (t s : Bool) (a q : ℕ) → 0 < a → signed_le t (q * down e) s (a * 1) ≡ true → signed_le t (q * 1) s (cut s a (down e) * 1) ≡ true
    go false false a q A g =
        let l : q * down e ≤ a = le_trans (leb-true (q * down e) (a * 1) g) (le_of_eq (mul-one a)) in
        le-leb (q * 1) (a / down e * 1) (le_trans (le_of_eq (mul-one q)) (le_trans ((le-div_iff_mul-le (down_pos e)).1 l) (le_of_eq (sym (mul-one (a / down e))))))
    go false true a q A g = absurd (none (q * down e) a A (leb-true (q * down e + a * 1) 0 g))
      where
        none : (b a : ℕ) → 0 < a → b + a * 1 ≤ 0 → ⊥
        none b a h k = omega arith
    go true false a q A g = refl
    go true true a q A g =
        let l : a ≤ q * down e = le_trans (le_of_eq (sym (mul-one a))) (leb-true (a * 1) (q * down e) g) in
        le-leb (ceil a (down e) * 1) (q * 1) (le_trans (le_of_eq (mul-one (ceil a (down e)))) (le_trans (ceil-le a (down e) q (down_pos e) l) (le_of_eq (sym (mul-one q)))))

pub floor-greatest : FloorGreatest
floor-greatest = record { is_whole = whole_part; not_above = below-x; greatest = above-all }
