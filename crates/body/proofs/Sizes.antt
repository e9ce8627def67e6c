-- How many numbers a kind has, 21, 26 or 34, and how long a body is. Assumes nothing.
use mathlib.Core.Path.{◌≡◌, refl, sym, ◌∙◌}
use mathlib.Core.Bool.{Bool, true, false, cond, ◌&&◌}
use mathlib.Core.List.{List, [], ◌∷◌, ◌++◌}
use Prim.Native.Nat.{ℕ, zero, suc, ◌+◌, ◌-◌, ◌*◌, ◌≤◌}
use native.Mathlib.Omega.{arith}
use lib.Dec.{eqb, leb}
use borrow.Author.Tests.{eqb-true, eqb-false, eq-eqb, ne_eqb}
use lib.ListN.{length, take, drop, get_or, replicate, length-append, length-drop}
use lib.Seq.{drop-drop, get_or-drop}
use Rattle.std.specs.List.{starts_with}
use Rattle.std.proofs.Math.Bool.{and_assoc, and-true}
use Rattle.std.proofs.lemmas.List.{take_rest}
use Rattle.orbit.specs.declared.propagator.Resonance.TheVariants.{OneDay, HalfDay}
use Rattle.orbit.specs.declared.propagator.Resonant.{Resonant}
use Rattle.orbit.specs.declared.propagator.Resonant.TheVariants.{No, Yes}
use Rattle.orbit.specs.declared.propagator.Constants.{Constants}
use Rattle.record.specs.Record.{kind_of, common_of, tail_of, numbers_of}
use Rattle.std.specs.Prelude.{Option, Some, None}
use Rattle.resonance.specs.declared.state.ResonanceState.{ResonanceState}
use Rattle.body.specs.Body.{longest, number_count, size_of, state_numbers, body_of}
use Rattle.body.specs.Read.{byte, kind_in, shaped}
use Rattle.body.proofs.Floats.{length-float_bytes}

pub count_most : (kind : ℕ) → number_count kind ≤ 34
count_most kind = go (eqb kind 0) (eqb kind 1)
  where
    go : (p q : Bool) → cond p 21 (cond q 26 34) ≤ 34
    go true q = omega arith
    go false true = omega arith
    go false false = omega arith

pub size-least : (kind : ℕ) → 8 ≤ size_of kind
size-least kind = go (eqb kind 0) (number_count kind)
  where
    go : (p : Bool) (n : ℕ) → 8 ≤ cond p (8 + 8 * n) (8 + 8 * n + 24)
    go true n = omega arith
    go false n = omega arith

pub state-most : (s : Option ResonanceState) → length (state_numbers s) ≤ 3
state-most None = omega arith
state-most (Some z) = omega arith

-- constants have as many numbers as their kind, and more places
pub numbers-count : (c : Constants) → length (take (number_count (kind_of c.resonant)) (numbers_of c)) ≡ number_count (kind_of c.resonant)
numbers-count c = go c.resonant
  where
    go : (r : Resonant) → length (take (number_count (kind_of r)) (common_of c ++ tail_of r)) ≡ number_count (kind_of r)
    go (No a0) = refl
    go (Yes lambda-0 lambda-dot-0 theta_0 (OneDay dr1 dr2 dr3)) = refl
    go (Yes lambda-0 lambda-dot-0 theta_0 (HalfDay d2201 d2211 d3210 d3222 d4410 d4422 d5220 d5232 d5421 d5433 k14)) = refl

pub length-body : (c : Constants) (s : Option ResonanceState) → length (body_of c s) ≡ 8 + 8 * (number_count (kind_of c.resonant) + length (state_numbers s))
unfolding body_of
length-body c s =
    let n = numbers-count c in
    simp (length-append, length-float_bytes) (omega arith)

pub body-most : (c : Constants) (s : Option ResonanceState) → length (body_of c s) ≤ longest
body-most c s =
    let n = count_most (kind_of c.resonant) in
    let k = state-most s in
    let e = length-body c s in
    omega arith

-- ---- zero bytes

zero-first : (b : ℕ) → eqb 0 b ≡ eqb b 0
zero-first b = go (eqb b 0) refl
  where
    go : (t : Bool) → eqb b 0 ≡ t → eqb 0 b ≡ t
    go true h = eq-eqb 0 b (sym (eqb-true _ _ h))
    go false h = ne_eqb 0 b (λ e. eqb-false _ _ h (sym e))

-- each of the first n bytes is zero
zero-run : ℕ → List ℕ → Bool
zero-run zero s = true
zero-run (suc n) s = eqb (get_or s 0 0) 0 && zero-run n (drop 1 s)

zeros-run : (n : ℕ) (s : List ℕ) → n ≤ length s → starts_with eqb s (replicate n 0) ≡ zero-run n s
unfolding zero-run
zeros-run zero s h = refl
zeros-run (suc n) [] h = absurd (omega arith)
zeros-run (suc n) (b ∷ s) h = simp (zero-first, zeros-run n s (omega arith))

zeros : (s : List ℕ) → 8 ≤ length s
    → starts_with eqb (take (length s - 2) (drop 2 s)) (replicate 6 0)
    ≡ (eqb (byte s 2) 0 && (eqb (byte s 3) 0 && (eqb (byte s 4) 0 && (eqb (byte s 5) 0 && (eqb (byte s 6) 0 && eqb (byte s 7) 0)))))
unfolding zero-run
zeros s h = simp take_rest (zeros-run 6 (drop 2 s) (simp length-drop (omega arith)) ∙ simp (drop-drop, get_or-drop, and-true))

-- six bytes that are zero, tested at once
pub shaped-at_once : (s : List ℕ) → 8 ≤ length s
    → (eqb (length s) (size_of (kind_in s)) && leb (kind_in s) 2 && leb (byte s 1) 1 && starts_with eqb (take (length s - 2) (drop 2 s)) (replicate 6 0)) ≡ shaped s
unfolding shaped
shaped-at_once s h = rw (zeros s h) (simp and_assoc)

-- a body of the right shape has its kind's length
pub shaped-length : (s : List ℕ) → shaped s ≡ true → length s ≡ size_of (kind_in s)
unfolding shaped
shaped-length s h = go (eqb (length s) (size_of (kind_in s))) refl
  where
    go : (t : Bool) → eqb (length s) (size_of (kind_in s)) ≡ t → length s ≡ size_of (kind_in s)
    go true e = eqb-true _ _ e
    go false e =
        let k = simp e at h in
        let z : ◌≡◌ {A = ℕ} 0 1 = cc in
        absurd (omega arith)

pub shaped-least : (s : List ℕ) → shaped s ≡ true → 8 ≤ length s
shaped-least s h = let e = shaped-length s h in let m = size-least (kind_in s) in omega arith
