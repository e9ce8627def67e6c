-- The loop as laws on the definitions: what holds before each turn, that it is kept, and what the ways out give. Then the stepping and the replay by the loop's
-- answer. Assumes nothing.
use mathlib.Core.Path.{◌≡◌, refl, sym, ap, ap₂, ◌∙◌, subst}
use Prim.Native.Nat.{ℕ, suc, ◌+◌, ◌-◌, ◌*◌, ◌^◌, ◌≤◌, ◌<◌, zero-le}
use native.Mathlib.Nat.{le_trans, le_of_eq, lt_of_lt_of_le, add-zero, add-suc, sub-zero, zero-mul}
use native.Mathlib.Numerals.{add-one}
use native.Mathlib.Omega.{arith}
use mathlib.Core.Bool.{Bool, true, false, not, ◌&&◌, cond}
use lib.Dec.{T, ltb}
use lib.Ieee.{Float, nan, inf, fin, binary64, up, down, fits}
use lib.Ieee.Fits.{and_l, and_r}
use lib.Ieee.Scale.{finite}
use denote.Floats.{is_true}
use borrow.Author.Tests.{ltb-true, ltb-false, le-ltb}
use Rattle.floats.specs.Value.{negative, is_zero, at_most, shorter}
use Rattle.times.specs.declared.time.Fault.{Fault}
use Rattle.times.specs.declared.time.Fault.TheVariants.{RatesRefused}
use Rattle.std.specs.Option.{option_and_then}
use Rattle.std.specs.Result.{result_or}
use Rattle.std.specs.Prelude.{Option, Some, None, Result, Ok, Err}
use Rattle.rates.specs.declared.Integrator.{Integrator}
use Rattle.resonance.specs.declared.state.ResonanceState.{ResonanceState}
use Rattle.resonance.specs.declared.advance.Walked.{Walked}
use Rattle.times.specs.Time.{limit, number, multiple, zero_time, back, placed, refusal, planned, plan, due}
use Rattle.resonance.specs.State.{fresh_of, same_state, step_of, refused_with}
use Rattle.resonance.specs.Advance.{steps, one_more, made, walked, taken, carried_out, advance_of, counted, walk_by, walk_of, agrees, replay_of}
use Rattle.times.proofs.Placed.{At as Stands, at_next, due-is, placed-finite}
use Rattle.times.proofs.Accepted.{accepted, accepted-at, accepted-le, accepted-most}
use Rattle.resonance.proofs.Steps.{step-time, steps_on, made-on, made_all}

-- ---- before each turn: n steps are made, from s to st
pub record Walk (c : Integrator) (s : ResonanceState) (t : Float) (b : Bool) (st : ResonanceState) (n : ℕ) : Type 0 where
  pub none : refusal s.t t ≡ Ok tt
  pub way : back t ≡ b
  pub made : steps c b n s ≡ Some st
  pub place : Stands b (number s.t + n) st.t
  pub most : number s.t + n ≤ number t

pub walk_start : (c : Integrator) (s : ResonanceState) (t : Float) → refusal s.t t ≡ Ok tt → Walk c s t (back t) s 0
walk_start c s t p = record {
  none = p;
  way = refl;
  made = unfold steps in refl;
  place = subst (λ (i : ℕ). Stands (back t) i s.t) (sym (add-zero (number s.t))) (accepted-at s.t t p);
  most = le_trans (le_of_eq (add-zero (number s.t))) (accepted-le s.t t p);
}

module _ (c : Integrator) (s : ResonanceState) (t : Float) (b : Bool) (st : ResonanceState) (n : ℕ) (f : T (fits binary64 t)) (w : Walk c s t b st n) where
  walk-due : due b st.t t ≡ ltb (number s.t + n) (number t)
  walk-due = due-is b (number s.t + n) st.t t f (accepted s.t t w.none).near w.way w.place

  pub walk_more : due b st.t t ≡ true → number s.t + n < number t
  walk_more d = ltb-true (number s.t + n) (number t) (sym walk-due ∙ d)

  pub walk-few : number t ≤ 2 ^ 20
  walk-few = accepted-most s.t t w.none

  pub walk-next : (st' : ResonanceState) → due b st.t t ≡ true → step_of c b st ≡ Some st' → Walk c s t b st' (n + 1)
  walk-next st' d p =
      let l : number s.t + n < number t = walk_more d in
      let i : number s.t + (n + 1) ≡ suc (number s.t + n) = ap (λ (k : ℕ). number s.t + k) (add-one n) ∙ add-suc (number s.t) n in
      record {
        none = w.none;
        way = w.way;
        made = steps_on c b n 1 s st w.made ∙ one;
        place = subst (λ (k : ℕ). Stands b k st'.t) (sym i) (subst (λ (x : Float). Stands b (suc (number s.t + n)) x) (sym (step-time c b st st' p)) (at_next b (number s.t + n) st.t (lt_of_lt_of_le l walk-few) w.place));
        most = omega arith;
      }
    where
      one : steps c b 1 st ≡ Some st'
      one = unfold steps in ap (λ (o : Option ResonanceState). option_and_then (λ (x : ResonanceState). steps c b 0 x) o) p

  -- the loop's step is refused: as many are made as it counted
  pub walk-stop : due b st.t t ≡ true → step_of c b st ≡ None → Err n ≡ walk_of c s t
  unfolding walk_of
  walk-stop d p =
      let l : number s.t + n < number t = walk_more d in
      let r : ℕ = number t - number s.t - suc n in
      let k : number t - number s.t ≡ n + suc r = omega arith in
      sym (ap₂ (λ (b : Bool) (k : ℕ). walk_by c s b k) w.way k
      ∙ ap₂ (λ (m : ℕ) (o : Option ResonanceState). counted (n + suc r) m o)
      (made-on c b n (suc r) s st w.made ∙ ap (λ (i : ℕ). n + i) (first_made r) ∙ add-zero n)
      (steps_on c b n (suc r) s st w.made ∙ first r))
    where
      first : (r : ℕ) → steps c b (suc r) st ≡ None
      first r = unfold steps in ap (λ (o : Option ResonanceState). option_and_then (λ (x : ResonanceState). steps c b r x) o) p

      first_made : (r : ℕ) → made c b (suc r) st ≡ 0
      first_made r = unfold made in ap (λ (o : Option ResonanceState). one_more o (λ (x : ResonanceState). made c b r x)) p

  pub walk_end : due b st.t t ≡ false → Ok (walked st n) ≡ walk_of c s t
  unfolding walk_of
  walk_end d =
      let l : number t ≤ number s.t + n = ltb-false (number s.t + n) (number t) (sym walk-due ∙ d) in
      let m : number s.t + n ≤ number t = w.most in
      let k : number t - number s.t ≡ n = omega arith in
      sym (ap₂ (λ (b : Bool) (k : ℕ). walk_by c s b k) w.way k ∙ ap (λ (o : Option ResonanceState). counted n (made c b n s) o) w.made)

-- ---- the stepping of an ask: refused by the two times, or by the loop's answer
pub advance-refused : (c : Integrator) (s : ResonanceState) (t : Float) (f : Fault) → refusal s.t t ≡ Err f → Err (refused_with f s) ≡ advance_of c s t
unfolding advance_of plan
advance-refused c s t f p = sym (ap (λ (r : Result (Unit {0}) Fault). carried_out c s (planned r (back t) (number t - number s.t))) p)

pub advance-go : (c : Integrator) (s : ResonanceState) (t : Float) → refusal s.t t ≡ Ok tt
    → advance_of c s t ≡ taken s (number t - number s.t) (steps c (back t) (number t - number s.t) s)
unfolding advance_of plan
advance-go c s t p = ap (λ (r : Result (Unit {0}) Fault). carried_out c s (planned r (back t) (number t - number s.t))) p

pub advance-walk : (c : Integrator) (s : ResonanceState) (t : Float) → refusal s.t t ≡ Ok tt → result_or (walk_of c s t) (Err (refused_with RatesRefused s)) ≡ advance_of c s t
unfolding walk_of
advance-walk c s t p = go (number t - number s.t) (made c (back t) (number t - number s.t) s) (steps c (back t) (number t - number s.t) s) ∙ sym (advance-go c s t p)
  where
    go : (k m : ℕ) (o : Option ResonanceState) → result_or (counted k m o) (Err (refused_with RatesRefused s)) ≡ taken s k o
    go k m None = refl
    go k m (Some n) = refl

-- ---- the replay of a stored state: the fresh state may be asked at any state's time
not-shorter : (x : Float) → shorter x zero_time ≡ false
not-shorter nan = refl
not-shorter (inf s) = refl
not-shorter (fin s m e) = le-ltb (m * up e * 1) (0 * down e) (le_trans (le_of_eq (zero-mul (down e))) zero-le)

pub fresh-asked : (x : Float) → placed x ≡ true → refusal zero_time x ≡ Ok tt
unfolding refusal
fresh-asked x q =
    let p : T (placed x) = subst T (sym q) tt in
    let near : T (at_most limit x) = and_r (multiple x) (at_most limit x) (and_l (multiple x && at_most limit x) (not (negative x && is_zero x)) p) in
    rw (is_true (finite x) (placed-finite x p), is_true (at_most limit x) near, not-shorter x)

abbrev pub replay_from : ResonanceState → Result Walked ℕ → Result ℕ ℕ
replay_from z (Ok w) = cond (same_state w.state z) (Ok w.steps) (Err w.steps)
replay_from z (Err m) = Err m

module _ (c : Integrator) (n l : Float) (z : ResonanceState) where
  pub replay-not : placed z.t ≡ false → Err 0 ≡ replay_of c n l z
  unfolding replay_of
  replay-not p = rw p

  pub replay-walk : placed z.t ≡ true → replay_from z (walk_of c (fresh_of n l) z.t) ≡ replay_of c n l z
  unfolding replay_of walk_of
  replay-walk p =
      let f = fresh_of n l in
      let b = back z.t in
      rw p (ap (λ (k : ℕ). replay_from z (walk_by c f b k)) (sub-zero (number z.t)) ∙ go (number z.t) (steps c b (number z.t) f) refl)
    where
      go : (k : ℕ) (o : Option ResonanceState) → steps c (back z.t) k (fresh_of n l) ≡ o
          → replay_from z (counted k (made c (back z.t) k (fresh_of n l)) o) ≡ cond (agrees z o) (Ok (made c (back z.t) k (fresh_of n l))) (Err (made c (back z.t) k (fresh_of n l)))
      go k None e = refl
      go k (Some s) e = ap (λ (i : ℕ). cond (same_state s z) (Ok i) (Err i)) (sym (made_all c (back z.t) k (fresh_of n l) s e))
