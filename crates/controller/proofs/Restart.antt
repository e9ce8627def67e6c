-- Two states of one orbit answer alike: a state that j steps reach, asked at t, goes on to the same last node as the fresh state does, since steps compose and
-- an ask that is not refused 7 goes in the direction of the steps made. Assumes nothing.
use mathlib.Core.Path.{◌≡◌, refl, sym, ap, ◌∙◌, subst}
use Prim.Native.Nat.{ℕ, zero, suc, ◌+◌, ◌-◌, ◌*◌, ◌%◌, ◌^◌, ◌≤◌, ◌<◌}
use native.Mathlib.Nat.{le_trans, le_of_eq, zero-add, mul_assoc, mul-le-mul_right, mul-mod_left, mul-pos, zero-mul, zero-lt-suc}
use native.Mathlib.Omega.{arith}
use mathlib.Core.Bool.{Bool, true, false, not, ◌&&◌, cond, true≢false}
use lib.Dec.{T, leb, eqb, le→leb, eqb→eq, lit<}
use lib.Ieee.{Float, nan, inf, fin, up, down}
use lib.Ieee.Bits.{is_true}
use lib.Ieee.Fits.{and_i, and_l, and_r, eq→eqb, down_pos}
use lib.Ieee.Scale.{finite}
use Rattle.std.proofs.Common.{rules, tests}
use Rattle.std.specs.Prelude.{Option, Some, None, Result, Ok, Err}
use Rattle.floats.specs.Value.{at_most}
use Rattle.orbit.specs.Propagator.{finite_constants, finite_orbit, finite_resonance, finite_resonant}
use Rattle.orbit.specs.Model.{finite_geopotential}
use Rattle.orbit.specs.declared.propagator.Resonance.{Resonance}
use Rattle.orbit.specs.declared.propagator.Resonant.{Resonant}
use Rattle.orbit.specs.declared.propagator.Resonant.TheVariants.{Yes}
use Rattle.orbit.specs.declared.propagator.Constants.{Constants}
use Rattle.elements.specs.Elements.{finite_question}
use Rattle.elements.specs.declared.elements.Question.{Question}
use Rattle.elements.specs.declared.elements.Elements.{Elements}
use Rattle.elements.specs.declared.elements.ElementsError.{ElementsError}
use Rattle.times.specs.declared.time.Fault.{Fault}
use Rattle.times.specs.declared.time.Fault.TheVariants.{TimeNotFinite, TimeBeyondLimit, StateMisplaced, NotOnward, RatesRefused}
use Rattle.rates.specs.declared.Integrator.{Integrator}
use Rattle.resonance.specs.declared.state.ResonanceState.{ResonanceState}
use Rattle.resonance.specs.declared.state.Refused.{Refused}
use Rattle.resonance.specs.declared.advance.Walked.{Walked}
use Rattle.resonance.specs.declared.ask.Asked.{Asked}
use Rattle.times.specs.Time.{limit, number, back, placed, onward, refusal}
use Rattle.resonance.specs.State.{fresh_of, finite_state, integrator}
use Rattle.resonance.specs.Advance.{steps, taken}
use Rattle.resonance.specs.Ask.{Answer, refusal_by, numbers_refusal, node_of, reached_by, advanced_by, resonant_ask, kind_ask, checked_ask, state_ask_of}
use Rattle.controller.specs.Restart.{Reaches, NotSeven, SameAnswer, Restart}
use Rattle.times.proofs.Placed.{At, sign_of, at-num, at-number}
use Rattle.times.proofs.Accepted.{accepted-at, accepted-le}
use Rattle.resonance.proofs.Steps.{step_is, steps_on, steps-place, steps-keep}
use Rattle.resonance.proofs.Walk.{advance-refused, advance-go}

-- ---- a state that steps reach stands at a time that it may have

placed_at : (b : Bool) (j : ℕ) (x : Float) → j ≤ 2 ^ 20 → At b j x → placed x ≡ true
placed_at b j nan h v = absurd v
placed_at b j (inf s) h v = absurd v
placed_at b j (fin s m e) h v =
    let is : m * up e ≡ j * (720 * down e) = at-num b j s m e v in
    let times : eqb (m * up e % (720 * down e)) 0 ≡ true = is_true (eqb (m * up e % (720 * down e)) 0) (eq→eqb (ap (λ (k : ℕ). k % (720 * down e)) is ∙ mul-mod_left j (720 * down e))) in
    let within : leb (m * up e) (limit * down e) ≡ true = is_true (leb (m * up e) (limit * down e)) (le→leb (m * up e) (limit * down e)
    (le_trans (le_of_eq (is ∙ sym (mul_assoc j 720 (down e)))) (mul-le-mul_right (down e) (small j h)))) in
    let signed : (s && eqb m 0) ≡ false = plain j v.0 is in
    ap (λ (k : Bool). k && leb (m * up e) (limit * down e) && not (s && eqb m 0)) times
    ∙ ap (λ (k : Bool). true && k && not (s && eqb m 0)) within
    ∙ ap (λ (k : Bool). true && true && not k) signed
  where
    small : (j : ℕ) → j ≤ 2 ^ 20 → j * 720 ≤ 754974720
    small j h = omega arith

    none : (s : Bool) → s ≡ false → (s && eqb m 0) ≡ false
    none true p = absurd (true≢false p)
    none false p = refl

    plain : (j : ℕ) → s ≡ sign_of b j → m * up e ≡ j * (720 * down e) → (s && eqb m 0) ≡ false
    plain zero p q = none s p
    plain (suc j) p q = go (eqb m 0) (eqb→eq m 0)
      where
        pos : (a d : ℕ) → 0 < d → 0 ≡ suc a * (720 * d) → ⊥
        pos a d D z = let h : 0 < suc a * (720 * d) = mul-pos (zero-lt-suc a) (mul-pos (lit< tt) D) in omega arith

        last : (s : Bool) → (s && false) ≡ false
        last true = refl
        last false = refl

        go : (k : Bool) → (T k → m ≡ 0) → (s && k) ≡ false
        go true f = absurd (pos j (down e) (down_pos e) (sym (ap (λ (x : ℕ). x * up e) (f tt) ∙ zero-mul (up e)) ∙ q))
        go false f = last s

-- ---- one orbit: its integrator, n and lambda_0

module _ (i : Integrator) (n l : Float) where
  -- a state asked at t that passes goes the way of the steps made
  module _ (s : ResonanceState) (w : Reaches i n l s) where
    at_j : At w.0 w.1 s.t
    at_j = subst (λ (k : ℕ). At w.0 k s.t) (zero-add w.1) (steps-place i w.0 w.1 0 (fresh_of n l) s (le_trans (le_of_eq (zero-add w.1)) w.2) (refl, refl) w.3)

    stands : placed s.t ≡ true
    stands = placed_at w.0 w.1 s.t w.2 at_j

    steps-there : (t : Float) → refusal s.t t ≡ Ok tt → steps i (back t) w.1 (fresh_of n l) ≡ Some s
    unfolding steps
    steps-there t p = go w.1 w.3 at_j (subst (λ (k : ℕ). At (back t) k s.t) (at-number w.0 w.1 s.t at_j) (accepted-at s.t t p))
      where
        way : (x : Float) (b d : Bool) (j : ℕ) → At b (suc j) x → At d (suc j) x → b ≡ d
        way nan b d j u v = absurd u
        way (inf z) b d j u v = absurd u
        way (fin z m e) b d j u v = sym u.0 ∙ v.0

        go : (j : ℕ) → steps i w.0 j (fresh_of n l) ≡ Some s → At w.0 j s.t → At (back t) j s.t → steps i (back t) j (fresh_of n l) ≡ Some s
        go zero e u v = e
        go (suc j) e u v = subst (λ (b : Bool). steps i b (suc j) (fresh_of n l) ≡ Some s) (way s.t w.0 (back t) j u v) e

    -- and reaches what the fresh state reaches
    reach : (t : Float) → refusal s.t t ≡ Ok tt → steps i (back t) (number t - number s.t) s ≡ steps i (back t) (number t) (fresh_of n l)
    reach t p =
        let j : number s.t ≡ w.1 = at-number w.0 w.1 s.t at_j in
        let le : w.1 ≤ number t = subst (λ (k : ℕ). k ≤ number t) j (accepted-le s.t t p) in
        let whole : w.1 + (number t - w.1) ≡ number t = omega arith in
        ap (λ (k : ℕ). steps i (back t) (number t - k) s) j
        ∙ sym (steps_on i (back t) w.1 (number t - w.1) (fresh_of n l) s (steps-there t p))
        ∙ ap (λ (k : ℕ). steps i (back t) k (fresh_of n l)) whole

-- ---- the answer by the last node alone

pub answer_at : Constants → Integrator → Float → Question → Option ResonanceState → Answer
answer_at c i theta_0 q None = Err RatesRefused
answer_at c i theta_0 q (Some z) = node_of c i theta_0 z q

pub record OnNode (a : Asked ResonanceState) (s : ResonanceState) (expected : Answer) (node : Option ResonanceState) : Type 0 where
  pub answer : a.answer ≡ expected
  pub given : (f : Fault) → a.answer ≡ Err f → a.state ≡ s
  pub state : (o : Result Elements ElementsError) → a.answer ≡ Ok o → Some a.state ≡ node

on-node : (c : Constants) (i : Integrator) (theta_0 : Float) (s : ResonanceState) (q : Question) (k : ℕ) (node : Option ResonanceState)
    → OnNode (advanced_by c i theta_0 s q (taken s k node)) s (answer_at c i theta_0 q node) node
unfolding answer_at
on-node c i theta_0 s q k None = record { answer = refl; given = λ f p. refl; state = λ o p. cc }
on-node c i theta_0 s q k (Some z) = go (node_of c i theta_0 z q)
  where
    go : (a : Answer) → OnNode (reached_by s z k a) s a (Some z)
    go (Err f) = record { answer = refl; given = λ g p. refl; state = λ o p. cc }
    go (Ok r) = record { answer = refl; given = λ f p. cc; state = λ o p. refl }

module _ (c : Constants) (i : Integrator) (n l theta_0 : Float) (q : Question) (s : ResonanceState) (w : Reaches i n l s) where
  pub resonant : refusal s.t q.t ≡ Ok tt → OnNode (resonant_ask c i theta_0 s q) s (answer_at c i theta_0 q (steps i (back q.t) (number q.t) (fresh_of n l))) (steps i (back q.t) (number q.t) (fresh_of n l))
  unfolding resonant_ask
  resonant p =
      let t = q.t in
      let k = number t - number s.t in
      let node = steps i (back t) (number t) (fresh_of n l) in
      subst (λ (a : Result Walked Refused). OnNode (advanced_by c i theta_0 s q a) s (answer_at c i theta_0 q node) node)
      (sym (advance-go i s t p ∙ ap (taken s k) (reach i n l s w t p)))
      (on-node c i theta_0 s q k node)

  -- past 1 and 2, an ask that is not refused 7 passes
  passes : finite q.t ≡ true → at_most limit q.t ≡ true → ((resonant_ask c i theta_0 s q).answer ≡ Err NotOnward → ⊥) → refusal s.t q.t ≡ Ok tt
  unfolding refusal resonant_ask
  passes f m seven = first ∙ go (onward s.t q.t) refl
    where
      first : refusal s.t q.t ≡ cond (onward s.t q.t) (Ok tt) (Err NotOnward)
      first =
          let last = cond (onward s.t q.t) (Ok tt) (Err NotOnward) in
          ap (λ (x : Bool). cond x (cond (at_most limit q.t) (cond (placed s.t) last (Err StateMisplaced)) (Err TimeBeyondLimit)) (Err TimeNotFinite)) f
          ∙ ap (λ (x : Bool). cond x (cond (placed s.t) last (Err StateMisplaced)) (Err TimeBeyondLimit)) m
          ∙ ap (λ (x : Bool). cond x last (Err StateMisplaced)) (stands i n l s w)

      go : (x : Bool) → onward s.t q.t ≡ x → cond x (Ok (tt {0})) (Err NotOnward) ≡ Ok tt
      go true e = refl
      go false e =
          let r : refusal s.t q.t ≡ Err NotOnward = first ∙ ap (λ (x : Bool). cond x (Ok tt) (Err NotOnward)) e in
          absurd (seven (ap (λ (a : Result Walked Refused). (advanced_by c i theta_0 s q a).answer) (sym (advance-refused i s q.t NotOnward r))))

-- ---- 1, 2 and 3 are the same for every state of the orbit: finite constants have finite states

and-true : (a b c : Bool) → (T c → T b) → (a && b && c) ≡ (a && true && c)
and-true a true c f = refl
and-true a false false f = last (a && false) ∙ sym (last (a && true))
  where
    last : (x : Bool) → (x && false) ≡ false
    last true = refl
    last false = refl
and-true a false true f = absurd (f tt)

module _ (c : Constants) (lambda-0 lambda-dot-0 theta_0 : Float) (r : Resonance) (kind : c.resonant ≡ Yes lambda-0 lambda-dot-0 theta_0 r) where
  abbrev i : Integrator
  i = integrator c.orbit_0 lambda-dot-0 r

  abbrev n : Float
  n = c.orbit_0.mean_motion

  -- the second and the last of twelve
  ends : (a b d e f g h k m p o z : Bool) → T (a && b && d && e && f && g && h && k && m && p && o && z) → T b × T z
  ends a b d e f g h k m p o z t = (search (rules, tests), search (rules, tests))

  fresh-finite : T (finite_constants c) → T (finite_state (fresh_of n lambda-0))
  fresh-finite t =
      let o = c.orbit_0 in
      let p = ends (finite_geopotential c.geopotential) (finite_orbit o) (finite c.right_ascension_dot) (finite c.argument_of_perigee_dot) (finite c.mean_anomaly_dot) (finite c.c1) (finite c.c4) (finite c.k0) (finite c.k1) (finite c.eccentricity_dot) (finite c.inclination_dot) (finite_resonant c.resonant) t in
      let five = finite o.inclination && finite o.right_ascension && finite o.eccentricity && finite o.argument_of_perigee && finite o.mean_anomaly in
      and_i (finite n) (finite lambda-0) (and_r five (finite n) p.0) (longitude (subst (λ (x : Resonant). T (finite_resonant x)) kind p.1))
    where
      longitude : T (finite lambda-0 && finite lambda-dot-0 && finite theta_0 && finite_resonance r) → T (finite lambda-0)
      longitude t =
          and_l (finite lambda-0) (finite lambda-dot-0)
          (and_l (finite lambda-0 && finite lambda-dot-0) (finite theta_0) (and_l (finite lambda-0 && finite lambda-dot-0 && finite theta_0) (finite_resonance r) t))

  state-finite : (s : ResonanceState) → Reaches i n lambda-0 s → T (finite_constants c) → T (finite_state s)
  state-finite s w t = steps-keep i w.0 (λ (x : ResonanceState). T (finite_state x)) (λ x y p. (step_is i w.0 x y p).fine) w.1 (fresh_of n lambda-0) s (fresh-finite t) w.3

  numbers-same : (s : ResonanceState) (q : Question) → Reaches i n lambda-0 s → numbers_refusal c q (finite_state s) ≡ numbers_refusal c q true
  unfolding numbers_refusal
  numbers-same s q w = ap (refusal_by (finite q.t) (at_most limit q.t)) (and-true (finite_question q) (finite_state s) (finite_constants c) (state-finite s w))

-- ---- the theorem

same_of : (x y x' y' : Asked ResonanceState) → x ≡ x' → y ≡ y' → SameAnswer x' y' → SameAnswer x y
same_of x y x' y' p q h = subst (λ (a : Asked ResonanceState). SameAnswer a y) (sym p) (subst (λ (a : Asked ResonanceState). SameAnswer x' a) (sym q) h)

-- an ask that passes 1, 2 and 3 has a time that is finite and within the limit
timely : (a b d : Bool) → refusal_by a b d ≡ Ok tt → (a ≡ true) × (b ≡ true)
timely true true d p = (refl, refl)
timely true false d p = cc
timely false b d p = cc

module _ (c : Constants) (lambda-0 lambda-dot-0 theta_0 : Float) (r : Resonance) (kind : c.resonant ≡ Yes lambda-0 lambda-dot-0 theta_0 r) (q : Question) where
  abbrev I : Integrator
  I = integrator c.orbit_0 lambda-dot-0 r

  abbrev N : Float
  N = c.orbit_0.mean_motion

  checked : (s : ResonanceState) → Reaches I N lambda-0 s → state_ask_of c s q ≡ checked_ask c s q (numbers_refusal c q true)
  unfolding state_ask_of
  checked s w = ap (checked_ask c s q) (numbers-same c lambda-0 lambda-dot-0 theta_0 r kind s q w)

  onward-ask : (s : ResonanceState) → Reaches I N lambda-0 s → numbers_refusal c q true ≡ Ok tt → state_ask_of c s q ≡ resonant_ask c I theta_0 s q
  onward-ask s w e = checked s w ∙ ap (checked_ask c s q) e ∙ ap (kind_ask c s q) kind

  on-last : (s : ResonanceState) → Reaches I N lambda-0 s → numbers_refusal c q true ≡ Ok tt → NotSeven (state_ask_of c s q).answer
      → OnNode (resonant_ask c I theta_0 s q) s (answer_at c I theta_0 q (steps I (back q.t) (number q.t) (fresh_of N lambda-0))) (steps I (back q.t) (number q.t) (fresh_of N lambda-0))
  unfolding numbers_refusal
  on-last s w e seven =
      let t = timely (finite q.t) (at_most limit q.t) (finite_question q && true && finite_constants c) e in
      resonant c I N lambda-0 theta_0 q s w
      (passes c I N lambda-0 theta_0 q s w t.0 t.1 (λ p. seven (ap (λ (a : Asked ResonanceState). a.answer) (onward-ask s w e) ∙ p)))

  alike : (s z : ResonanceState) → Reaches I N lambda-0 s → Reaches I N lambda-0 z → NotSeven (state_ask_of c s q).answer → NotSeven (state_ask_of c z q).answer
      → (k : Result (Unit {0}) Fault) → numbers_refusal c q true ≡ k → SameAnswer (state_ask_of c s q) (state_ask_of c z q)
  alike s z v w ns nz (Err f) e =
      same_of (state_ask_of c s q) (state_ask_of c z q) (checked_ask c s q (Err f)) (checked_ask c z q (Err f))
      (checked s v ∙ ap (checked_ask c s q) e) (checked z w ∙ ap (checked_ask c z q) e)
      (record { answer = refl; state = λ o p. cc })
  alike s z v w ns nz (Ok _) e =
      let a = on-last s v e ns in
      let b = on-last z w e nz in
      same_of (state_ask_of c s q) (state_ask_of c z q) (resonant_ask c I theta_0 s q) (resonant_ask c I theta_0 z q) (onward-ask s v e) (onward-ask z w e)
      (record {
        answer = a.answer ∙ sym b.answer;
        state = λ o p. same (a.state o p ∙ sym (b.state o (b.answer ∙ sym a.answer ∙ p)));
      })
    where
      same : {x y : ResonanceState} → Some x ≡ Some y → x ≡ y
      same p = cc

pub restart : Restart
restart c lambda-0 lambda-dot-0 theta_0 r kind s z v w q ns nz = alike c lambda-0 lambda-dot-0 theta_0 r kind q s z v w ns nz (numbers_refusal c q true) refl
