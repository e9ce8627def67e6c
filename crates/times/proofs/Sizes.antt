-- The order of two magnitudes is that of the sizes. Assumes nothing.
use mathlib.Core.Path.{◌≡◌, refl, sym, ap, ap₂, ◌∙◌, subst}
use Prim.Native.Nat.{ℕ, ◌+◌, ◌*◌, zero-le}
use native.Mathlib.Nat.{le_trans, le_of_eq, zero-mul, add-zero}
use native.Mathlib.Omega.{arith}
use mathlib.Core.Bool.{Bool, true, false, not, cond, false≢true}
use lib.IntN.{ℤ}
use lib.Dec.{T, leb, ltb}
use lib.Ieee.{Float, nan, inf, fin, up, down, round, lt, le, neg}
use lib.Ieee.Fits.{down_pos}
use lib.Ieee.Exact.{HasValue}
use lib.Ieee.Scale.{finite}
use borrow.Author.Tests.{leb-true, leb-false, ltb-true, ltb-false, le-leb, le-ltb}
use Rattle.floats.specs.Rounded.{dec, magnitude}
use Rattle.floats.specs.Value.{shorter}
use Rattle.floats.proofs.Values.{signed_le, le-values, own}

leb-not : (a b : ℕ) → leb a b ≡ not (ltb b a)
leb-not a b = go (leb a b) (ltb b a) refl refl
  where
    go : (x y : Bool) → leb a b ≡ x → ltb b a ≡ y → x ≡ not y
    go true true p q = absurd (omega (arith, leb-true a b p, ltb-true b a q))
    go true false p q = refl
    go false true p q = refl
    go false false p q = absurd (omega (arith, leb-false a b p, ltb-false b a q))

-- a magnitude's fraction: the sign bit is clear, or it is a zero
record Sized (x : Float) (a c : ℕ) : Type 0 where
  sign : Bool
  value : HasValue x sign a c
  plain : sign ≡ true → a ≡ 0

magnitude-sized : (s : Bool) (m : ℕ) (e : ℤ) → Sized (magnitude (fin s m e)) (m * up e) (down e)
unfolding dec round lt neg
magnitude-sized false m e =
    let none : ltb (m * up e * 1) (0 * down e) ≡ false = le-ltb (m * up e * 1) (0 * down e) (le_trans (le_of_eq (zero-mul (down e))) zero-le) in
    subst (λ (b : Bool). Sized (cond b (fin true m e) (fin false m e)) (m * up e) (down e)) (sym none)
    (record { sign = false; value = own false m e; plain = λ (q : false ≡ true). absurd (false≢true q) })
magnitude-sized true m e = go (ltb 0 (m * up e * 1 + 0 * down e)) refl
  where
    go : (b : Bool) → ltb 0 (m * up e * 1 + 0 * down e) ≡ b → Sized (cond b (fin false m e) (fin true m e)) (m * up e) (down e)
    go true p = record { sign = false; value = own false m e; plain = λ (q : false ≡ true). absurd (false≢true q) }
    go false p = record { sign = true; value = own true m e; plain = λ (q : true ≡ true). omega (arith, ltb-false 0 (m * up e * 1 + 0 * down e) p) }

-- the order of two magnitudes is that of the sizes
pub sizes : (x y : Float) → T (finite x) → T (finite y) → le (magnitude x) (magnitude y) ≡ not (shorter y x)
sizes nan y p q = elim p [ ]
sizes (inf _) y p q = elim p [ ]
sizes (fin s m e) nan p q = elim q [ ]
sizes (fin s m e) (inf _) p q = elim q [ ]
sizes (fin s m e) (fin t n d) p q =
    let a = magnitude-sized s m e in
    let b = magnitude-sized t n d in
    le-values (magnitude (fin s m e)) (magnitude (fin t n d)) a.sign (m * up e) (down e) b.sign (n * up d) (down d) (down_pos e) (down_pos d) a.value b.value
    ∙ go a.sign b.sign (m * up e * down d) (n * up d * down e) (λ (h : a.sign ≡ true). ap (λ (z : ℕ). z * down d) (a.plain h) ∙ zero-mul (down d)) (λ (h : b.sign ≡ true). ap (λ (z : ℕ). z * down e) (b.plain h) ∙ zero-mul (down e))
    ∙ leb-not (m * up e * down d) (n * up d * down e)
  where
    go : (s t : Bool) (A B : ℕ) → (s ≡ true → A ≡ 0) → (t ≡ true → B ≡ 0) → signed_le s A t B ≡ leb A B
    go false false A B f g = refl
    go false true A B f g = ap (λ (z : ℕ). leb (A + z) 0) (g refl) ∙ ap (λ (z : ℕ). leb z 0) (add-zero A) ∙ ap (λ (z : ℕ). leb A z) (sym (g refl))
    go true false A B f g = sym (le-leb A B (le_trans (le_of_eq (f refl)) zero-le))
    go true true A B f g = ap₂ (λ (x y : ℕ). leb x y) (g refl ∙ sym (f refl)) (f refl ∙ sym (g refl))
