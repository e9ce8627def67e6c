-- What an accepted ask has: the state's time is ±720 times its number, in t's direction, and its number is at most t's, which is at most 2 ^ 20. Assumes nothing.
use mathlib.Core.Path.{◌≡◌, refl, sym, ap, ◌∙◌, subst}
use Prim.Native.Nat.{ℕ, zero, suc, ◌+◌, ◌*◌, ◌/◌, ◌%◌, ◌^◌, ◌≤◌, ◌<◌}
use native.Mathlib.Nat.{le_trans, le_of_eq, lt_of_lt_of_le, lt_of_le_of_lt, lt_irrefl, mul_comm, mul_assoc, mul_left_comm, mul-le-mul_right, mul-pos, zero-mul, mul-one, eq-zero-or-pos, div-add-mod', add-zero}
use mathlib.Core.Logic.{inl, inr}
use native.Mathlib.Omega.{arith}
use mathlib.Core.Bool.{Bool, true, false, not, ◌&&◌, cond, beq, true≢false, ◌||◌}
use lib.IntN.{ℤ}
use lib.Dec.{T, ltb, eqb, leb→le, nltb→le, eqb→eq, T_not, lit<}
use lib.Ieee.{Float, nan, inf, fin, up, down, lt}
use lib.Ieee.Fits.{up_pos, down_pos, eq→eqb, and_l, and_r}
use lib.Ieee.Nearest.{div_mono}
use lib.Ieee.Positive.{first_pos}
use borrow.Author.Tests.{lt-ltb, ne_eqb}
use Rattle.times.proofs.Placed.{sign_of, At, placed-finite}
use lib.Ieee.Scale.{finite}
use Rattle.floats.specs.Value.{at_most, shorter}
use Rattle.std.specs.Prelude.{Ok, Err}
use Rattle.times.specs.declared.time.Fault.TheVariants.{TimeNotFinite, TimeBeyondLimit, StateMisplaced, NotOnward}
use Rattle.times.specs.Time.{limit, number, multiple, placed, same_way, not_earlier, onward, back, refusal}

pub record Accepted (s t : Float) : Type 0 where
  pub near : T (at_most limit t)
  pub set : T (placed s)
  pub fore : T (onward s t)

pub accepted : (s t : Float) → refusal s t ≡ Ok tt → Accepted s t
unfolding refusal
accepted s t p = go (finite t) (at_most limit t) (placed s) (onward s t) refl refl refl p
  where
    go : (a b c d : Bool) → at_most limit t ≡ b → placed s ≡ c → onward s t ≡ d
        → cond a (cond b (cond c (cond d (Ok (tt {0})) (Err NotOnward)) (Err StateMisplaced)) (Err TimeBeyondLimit)) (Err TimeNotFinite) ≡ Ok tt → Accepted s t
    go true true true true x y z q = record { near = subst T (sym x) tt; set = subst T (sym y) tt; fore = subst T (sym z) tt }
    go true true true false x y z q = cc
    go true true false d x y z q = cc
    go true false c d x y z q = cc
    go false b c d x y z q = cc

pub near-finite : (t : Float) → T (at_most limit t) → T (finite t)
near-finite nan h = h
near-finite (inf s) h = h
near-finite (fin s m e) h = tt

-- ---- numbers
pub number-most : (t : Float) → T (at_most limit t) → number t ≤ 2 ^ 20
number-most nan h = elim h [ ]
number-most (inf _) h = elim h [ ]
number-most (fin s m e) h =
    div_mono (m * up e) (720 * down e) (2 ^ 20) 1 (mul-pos (lit< tt) (down_pos e)) (lit< tt)
    (le_trans (le_of_eq (mul-one (m * up e))) (le_trans (leb→le (m * up e) (limit * down e) h) (le_of_eq (mul_assoc 1048576 720 (down e)))))

pub number-mono : (s t : Float) → T (finite s) → T (finite t) → T (not (shorter t s)) → number s ≤ number t
number-mono nan t p q h = elim p [ ]
number-mono (inf _) t p q h = elim p [ ]
number-mono (fin a m e) nan p q h = elim q [ ]
number-mono (fin a m e) (inf _) p q h = elim q [ ]
number-mono (fin a m e) (fin b n d) p q h =
    div_mono (m * up e) (720 * down e) (n * up d) (720 * down d) (mul-pos (lit< tt) (down_pos e)) (mul-pos (lit< tt) (down_pos d))
    (le_trans (le_of_eq (mul_left_comm (m * up e) 720 (down d)))
    (le_trans (le_of_eq (mul_comm 720 (m * up e * down d)))
    (le_trans (mul-le-mul_right 720 (nltb→le (n * up d * down e) (m * up e * down d) h))
    (le_of_eq (mul_comm (n * up d * down e) 720 ∙ mul_left_comm 720 (n * up d) (down e))))))

-- a time that is not zero goes back exactly if it is negative
pub back-sign : (s : Bool) (m : ℕ) (e : ℤ) → 0 < m → back (fin s m e) ≡ s
unfolding back lt
back-sign true m e h = refl
back-sign false m e h = ap not (lt-ltb (0 * down e) (m * up e * 1) (lt_of_le_of_lt (le_of_eq (zero-mul (down e))) (mul-pos (mul-pos h (up_pos e)) (lit< tt))))

same_sign : (a b : Bool) → T (beq a b) → a ≡ b
same_sign true true t = refl
same_sign true false t = absurd t
same_sign false true t = absurd t
same_sign false false t = refl

pub at-start : (s t : Float) → T (at_most limit t) → T (placed s) → T (onward s t) → At (back t) (number s) s
at-start nan t near set fore = elim set [ ]
at-start (inf _) t near set fore = elim set [ ]
at-start (fin a m e) nan near set fore = elim near [ ]
at-start (fin a m e) (inf _) near set fore = elim near [ ]
at-start (fin a m e) (fin b n d) near set fore = (sign (m * up e / (720 * down e)) whole, mul-one (m * up e) ∙ whole ∙ sym (mul_assoc (m * up e / (720 * down e)) 720 (down e)) ∙ ap (λ (z : ℕ). z * down e) (mul_comm (m * up e / (720 * down e)) 720))
  where
    whole : m * up e ≡ m * up e / (720 * down e) * (720 * down e)
    whole =
        sym (div-add-mod' (m * up e) (720 * down e))
        ∙ ap (λ (z : ℕ). m * up e / (720 * down e) * (720 * down e) + z)
        (eqb→eq (m * up e % (720 * down e)) 0
        (and_l (multiple (fin a m e)) (at_most limit (fin a m e)) (and_l (multiple (fin a m e) && at_most limit (fin a m e)) (not (a && eqb m 0)) set)))
        ∙ add-zero (m * up e / (720 * down e) * (720 * down e))

    plain : (a : Bool) → T (eqb m 0) → T (not (a && eqb m 0)) → a ≡ false
    plain false z t = refl
    plain true z t = absurd (T_not (eqb m 0) t z)

    one : (x y : Bool) → T (x || y) → x ≡ false → T y
    one true y t p = absurd (true≢false p)
    one false y t p = t

    sign : (q : ℕ) → m * up e ≡ q * (720 * down e) → a ≡ sign_of (back (fin b n d)) q
    sign zero p =
        plain a (elim (eq-zero-or-pos m) [ inl z ↦ eq→eqb z | inr g ↦ absurd (lt_irrefl 0 (subst (λ (z : ℕ). 0 < z) (p ∙ zero-mul (720 * down e)) (mul-pos g (up_pos e)))) ])
        (and_r (multiple (fin a m e) && at_most limit (fin a m e)) (not (a && eqb m 0)) set)
    sign (suc q) p =
        let big : 0 < m * up e = subst (λ (z : ℕ). 0 < z) (sym p) (mul-pos (above q) (mul-pos (lit< tt) (down_pos e))) in
        let M : 0 < m = first_pos m (up e) big in
        let far : m * up e * down d ≤ n * up d * down e = nltb→le (n * up d * down e) (m * up e * down d) (and_r (eqb m 0 || beq a b) (not (ltb (n * up d * down e) (m * up e * down d))) fore) in
        let N : 0 < n = first_pos n (up d) (first_pos (n * up d) (down e) (lt_of_lt_of_le (mul-pos big (down_pos d)) far)) in
        same_sign a b (one (eqb m 0) (beq a b) (and_l (eqb m 0 || beq a b) (not (ltb (n * up d * down e) (m * up e * down d))) fore) (ne_eqb m 0 (λ (z : m ≡ 0). lt_irrefl 0 (subst (λ (k : ℕ). 0 < k) z M))))
        ∙ sym (back-sign b n d N)
      where
        above : (i : ℕ) → 0 < suc i
        above i = omega arith

-- what an accepted ask's numbers are
pub accepted-at : (s t : Float) → refusal s t ≡ Ok tt → At (back t) (number s) s
accepted-at s t p = let a = accepted s t p in at-start s t a.near a.set a.fore

pub accepted-le : (s t : Float) → refusal s t ≡ Ok tt → number s ≤ number t
accepted-le s t p = let a = accepted s t p in number-mono s t (placed-finite s a.set) (near-finite t a.near) (and_r (same_way s t) (not_earlier s t) a.fore)

pub accepted-most : (s t : Float) → refusal s t ≡ Ok tt → number t ≤ 2 ^ 20
accepted-most s t p = number-most t (accepted s t p).near
