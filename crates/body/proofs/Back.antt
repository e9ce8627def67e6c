-- What was written is read back: each kind's numbers and state stand where they are read. Assumes nothing.
use mathlib.Core.Path.{◌≡◌, refl, sym, ap, ◌∙◌}
use mathlib.Core.Bool.{Bool, true, false, cond}
use mathlib.Core.List.{List, [], ◌∷◌, ◌++◌, append-nil}
use Prim.Native.Nat.{ℕ, ◌+◌, ◌*◌}
use native.Mathlib.Omega.{arith}
use borrow.Author.Tests.{eq-eqb}
use lib.Dec.{eqb, leb}
use lib.ListN.{length, take}
use lib.Ieee.{Float}
use Rattle.orbit.specs.declared.propagator.Resonance.TheVariants.{OneDay, HalfDay}
use Rattle.orbit.specs.declared.propagator.Resonant.{Resonant}
use Rattle.orbit.specs.declared.propagator.Resonant.TheVariants.{No, Yes}
use Rattle.orbit.specs.declared.propagator.Constants.{Constants}
use Rattle.record.specs.Record.{kind_of, common_of, tail_of, numbers_of, constants_of, resonant_of, place}
use Rattle.resonance.specs.declared.state.ResonanceState.{ResonanceState}
use Rattle.std.specs.Prelude.{Option, Some, None}
use Rattle.record.proofs.Back.{back}
use Rattle.body.specs.Floats.{float_at, floats, float_bytes}
use Rattle.body.specs.Body.{number_count, state_start, size_of, leading, state_numbers, body_numbers, body_of}
use Rattle.body.specs.Read.{byte, kind_in, shaped, constants_in, held_at, body_read}
use Rattle.body.specs.Back.{Held, Fitting, ReadBack}
use Rattle.body.proofs.Floats.{length-float_bytes, float_bytes-append, floats-back}
use Rattle.body.proofs.Sizes.{length-body, numbers-count}

-- the numbers of the constants, and those of the state
abbrev own : Constants → List Float
own c = take (number_count (kind_of c.resonant)) (numbers_of c)

held-front : (xs ys : List Float) → Held (xs ++ ys) → Held xs
held-front [] ys h = tt
held-front (x ∷ xs) ys h = (h.0, held-front xs ys h.1)

held-rest : (xs ys : List Float) → Held (xs ++ ys) → Held ys
held-rest [] ys h = h
held-rest (x ∷ xs) ys h = held-rest xs ys h.1

module _ (c : Constants) (s : Option ResonanceState) (h : Held (body_numbers c s)) where
  -- the body, with what stands before the state
  split : body_of c s ≡ leading (kind_of c.resonant) c.afspc_compatibility_mode ++ (float_bytes (own c) ++ float_bytes (state_numbers s))
  unfolding body_of
  split = simp (float_bytes-append (own c) (state_numbers s))

  numbers-back : floats (number_count (kind_of c.resonant)) 8 (body_of c s) ≡ own c
  numbers-back =
      ap (λ (l : List ℕ). floats (number_count (kind_of c.resonant)) 8 l) split
      ∙ ap (λ (n : ℕ). floats n 8 (leading (kind_of c.resonant) c.afspc_compatibility_mode ++ (float_bytes (own c) ++ float_bytes (state_numbers s)))) (sym (numbers-count c))
      ∙ floats-back 8 (own c) (leading (kind_of c.resonant) c.afspc_compatibility_mode) (float_bytes (state_numbers s)) refl (held-front (own c) (state_numbers s) h)

  state-back : floats (length (state_numbers s)) (state_start (kind_of c.resonant)) (body_of c s) ≡ state_numbers s
  state-back =
      let f = leading (kind_of c.resonant) c.afspc_compatibility_mode in
      let n : length (f ++ float_bytes (own c)) ≡ state_start (kind_of c.resonant) = simp length-float_bytes (let k = numbers-count c in omega arith) in
      let e : body_of c s ≡ (f ++ float_bytes (own c)) ++ (float_bytes (state_numbers s) ++ []) = split ∙ simp append-nil in
      ap (λ (l : List ℕ). floats (length (state_numbers s)) (state_start (kind_of c.resonant)) l) e
      ∙ floats-back (state_start (kind_of c.resonant)) (state_numbers s) (f ++ float_bytes (own c)) [] n (held-rest (own c) (state_numbers s) h)

-- ---- the constants

-- of 34 places a kind takes its own
own-places : (r : Resonant) (flag : Bool) (at : ℕ) (b : List ℕ) → constants_of (kind_of r) flag (floats 34 at b) ≡ constants_of (kind_of r) flag (floats (number_count (kind_of r)) at b)
unfolding constants_of resonant_of floats
own-places (No a0) flag at b = refl
own-places (Yes lambda-0 lambda-dot-0 theta_0 (OneDay dr1 dr2 dr3)) flag at b = refl
own-places (Yes lambda-0 lambda-dot-0 theta_0 (HalfDay d2201 d2211 d3210 d3222 d4410 d4422 d5220 d5232 d5421 d5433 k14)) flag at b = refl

own-numbers : (c : Constants) (r : Resonant) (flag : Bool)
    → constants_of (kind_of r) flag (take (number_count (kind_of r)) (common_of c ++ tail_of r)) ≡ constants_of (kind_of r) flag (common_of c ++ tail_of r)
unfolding constants_of resonant_of
own-numbers c (No a0) flag = refl
own-numbers c (Yes lambda-0 lambda-dot-0 theta_0 (OneDay dr1 dr2 dr3)) flag = refl
own-numbers c (Yes lambda-0 lambda-dot-0 theta_0 (HalfDay d2201 d2211 d3210 d3222 d4410 d4422 d5220 d5232 d5421 d5433 k14)) flag = refl

-- the first two bytes
kind-in : (c : Constants) (s : Option ResonanceState) → kind_in (body_of c s) ≡ kind_of c.resonant
unfolding body_of
kind-in c s = refl

flag-in : (c : Constants) (s : Option ResonanceState) → byte (body_of c s) 1 ≡ cond c.afspc_compatibility_mode 1 0
unfolding body_of
flag-in c s = refl

flag-back : (f : Bool) → eqb (cond f 1 0) 1 ≡ f
flag-back true = refl
flag-back false = refl

constants-back : (c : Constants) (s : Option ResonanceState) → Held (body_numbers c s) → constants_in (body_of c s) ≡ c
constants-back c s h =
    let k = kind_of c.resonant in
    let f = c.afspc_compatibility_mode in
    let b = body_of c s in
    ap (λ (j : ℕ). constants_of j (eqb (byte b 1) 1) (floats 34 8 b)) (kind-in c s)
    ∙ ap (λ (g : Bool). constants_of k g (floats 34 8 b)) (ap (λ (j : ℕ). eqb j 1) (flag-in c s) ∙ flag-back f)
    ∙ own-places c.resonant f 8 b
    ∙ ap (constants_of k f) (numbers-back c s h)
    ∙ (own-numbers c c.resonant f)
    ∙ back c

-- ---- the state

state-of : (at : ℕ) (b : List ℕ) (z : ResonanceState) → floats 3 at b ≡ z.t ∷ z.mean_motion ∷ z.lambda ∷ []
    → record { t = float_at at b; mean_motion = float_at (at + 8) b; lambda = float_at (at + 8 + 8) b } ≡ z
unfolding floats
state-of at b z e = ap (λ (l : List Float). record { t = place l 0; mean_motion = place l 1; lambda = place l 2 }) e

held_back : (b : List ℕ) (r : Resonant) (s : Option ResonanceState) → Fitting r s → floats (length (state_numbers s)) (state_start (kind_of r)) b ≡ state_numbers s → held_at (kind_of r) b ≡ s
held_back b (No a0) None f e = refl
held_back b (No a0) (Some z) f e = absurd f
held_back b (Yes lambda-0 lambda-dot-0 theta_0 r) None f e = absurd f
held_back b (Yes lambda-0 lambda-dot-0 theta_0 (OneDay dr1 dr2 dr3)) (Some z) f e = ap Some (state-of 216 b z e)
held_back b (Yes lambda-0 lambda-dot-0 theta_0 (HalfDay d2201 d2211 d3210 d3222 d4410 d4422 d5220 d5232 d5421 d5433 k14)) (Some z) f e = ap Some (state-of 280 b z e)

-- ---- the shape

size_back : (r : Resonant) (s : Option ResonanceState) → Fitting r s → 8 + 8 * (number_count (kind_of r) + length (state_numbers s)) ≡ size_of (kind_of r)
size_back (No a0) None f = refl
size_back (No a0) (Some z) f = absurd f
size_back (Yes lambda-0 lambda-dot-0 theta_0 r) None f = absurd f
size_back (Yes lambda-0 lambda-dot-0 theta_0 (OneDay dr1 dr2 dr3)) (Some z) f = refl
size_back (Yes lambda-0 lambda-dot-0 theta_0 (HalfDay d2201 d2211 d3210 d3222 d4410 d4422 d5220 d5232 d5421 d5433 k14)) (Some z) f = refl

kind-small : (r : Resonant) → leb (kind_of r) 2 ≡ true
kind-small (No a0) = refl
kind-small (Yes lambda-0 lambda-dot-0 theta_0 (OneDay dr1 dr2 dr3)) = refl
kind-small (Yes lambda-0 lambda-dot-0 theta_0 (HalfDay d2201 d2211 d3210 d3222 d4410 d4422 d5220 d5232 d5421 d5433 k14)) = refl

flag_small : (f : Bool) → leb (cond f 1 0) 1 ≡ true
flag_small true = refl
flag_small false = refl

shape-back : (c : Constants) (s : Option ResonanceState) → Fitting c.resonant s → shaped (body_of c s) ≡ true
unfolding body_of
shape-back c s f =
    shape c.resonant c.afspc_compatibility_mode (body_numbers c s) (length-body c s ∙ size_back c.resonant s f)
  where
    shape : (r : Resonant) (g : Bool) (xs : List Float) → length (leading (kind_of r) g ++ float_bytes xs) ≡ size_of (kind_of r)
        → shaped (leading (kind_of r) g ++ float_bytes xs) ≡ true
    shape r g xs e = unfold shaped in simp (eq-eqb _ _ e, kind-small r, flag_small g)

pub read_back : ReadBack
read_back c s f h =
    let b = body_of c s in
    unfold body_read in
    simp (shape-back c s f, constants-back c s h, ap (λ (k : ℕ). held_at k b) (kind-in c s) ∙ held_back b c.resonant s f (state-back c s h))
