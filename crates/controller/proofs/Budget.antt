-- How much stepping asks can cost: an ask that moves T reports the steps between the two times, by demand 3 and what an advance reports. Assumes nothing.
use mathlib.Core.Path.{◌≡◌, refl, sym, ap, ◌∙◌, subst}
use mathlib.Core.Bool.{Bool, true, false, cond, ◌&&◌}
use mathlib.Core.List.{List, [], ◌∷◌}
use Prim.Native.Nat.{ℕ, ◌+◌}
use native.Mathlib.Nat.{add-zero, zero-add, add_assoc, le_trans, le_of_eq}
use native.Mathlib.Omega.{arith}
use lib.Dec.{T}
use lib.Ieee.{Float, binary64, fits}
use Rattle.std.specs.Prelude.{Option, Some, None, Result, Ok, Err}
use Rattle.orbit.specs.declared.propagator.Resonance.{Resonance}
use Rattle.orbit.specs.declared.propagator.Resonant.{Resonant}
use Rattle.orbit.specs.declared.propagator.Resonant.TheVariants.{No, Yes}
use Rattle.orbit.specs.declared.propagator.Constants.{Constants}
use Rattle.elements.specs.declared.elements.Question.{Question}
use Rattle.times.specs.declared.time.Fault.{Fault}
use Rattle.rates.specs.declared.Integrator.{Integrator}
use Rattle.resonance.specs.declared.state.ResonanceState.{ResonanceState}
use Rattle.resonance.specs.declared.state.Refused.{Refused}
use Rattle.resonance.specs.declared.advance.Walked.{Walked}
use Rattle.resonance.specs.declared.ask.Asked.{Asked}
use Rattle.times.specs.Time.{number, back, placed}
use Rattle.resonance.specs.State.{fresh_of, finite_state, integrator}
use Rattle.resonance.specs.Advance.{steps, made, walked, agrees, advance_of, replay_of}
use Rattle.resonance.specs.Ask.{Answer, numbers_refusal, node_of, reached_by, advanced_by, resonant_ask, kind_ask, checked_ask, state_ask_of, ask_of}
use Rattle.times.proofs.Placed.{at-number}
use Rattle.resonance.proofs.Steps.{steps-keep, step_fits, steps-place, made_all}
use Rattle.stepping.proofs.Laws.{reported}
use Rattle.body.specs.Examine.{replayed}
use Rattle.body.specs.declared.examine.Record.{Record}
use Rattle.store.specs.declared.restore.RestoreError.{RestoreError}
use Rattle.store.specs.Restore.{restored_from}
use Rattle.controller.specs.Running.{asked_of, restored_by, restore_of}
use Rattle.controller.specs.Demand.{Event, asks, saves, resets, restores, Session, time_after, after_restore, stored_time, happen, run, start, GoodBy, Good}
use Rattle.controller.specs.Budget.{Between, asked, StepsAdd, ReplaySteps}
use Rattle.controller.proofs.Demand.{demand3, happens, restored-held}

-- ---- one ask

module _ (c : Constants) (lambda-0 lambda-dot-0 theta_0 : Float) (r : Resonance) (kind : c.resonant ≡ Yes lambda-0 lambda-dot-0 theta_0 r)
    (s : ResonanceState) (T₀ : Float) (good : GoodBy c (Yes lambda-0 lambda-dot-0 theta_0 r) (Some s) T₀) (q : Question) where
  abbrev i : Integrator
  i = integrator c.orbit_0 lambda-dot-0 r

  abbrev f : ResonanceState
  f = fresh_of c.orbit_0.mean_motion lambda-0

  -- the state's own number is T's
  own-number : number s.t ≡ number T₀
  own-number =
      at-number (back T₀) (0 + number T₀) s.t
      (steps-place i (back T₀) (number T₀) 0 f s (le_trans (le_of_eq (zero-add (number T₀))) good.0) (refl, refl) good.1)
      ∙ zero-add (number T₀)

  own-fits : T (fits binary64 s.t)
  own-fits = steps-keep i (back T₀) (λ (x : ResonanceState). T (fits binary64 x.t)) (step_fits i (back T₀)) (number T₀) f s (unfold fits in tt) good.1

  abbrev Counts : Asked ResonanceState → Type 0
  Counts a = number T₀ + a.steps ≡ number (time_after T₀ q.t a.answer)

  node_counts : (n : ResonanceState) (k : ℕ) → advance_of i s q.t ≡ Ok (walked n k) → (a : Answer) → Counts (reached_by s n k a)
  node_counts n k e (Err g) = add-zero (number T₀)
  node_counts n k e (Ok o) =
      let p = reported i s q.t n k own-fits e in
      let m = own-number in
      let le = p.0 in
      let d = p.1 in
      omega arith

  advance-counts : (x : Result Walked Refused) → advance_of i s q.t ≡ x → Counts (advanced_by c i theta_0 s q x)
  advance-counts (Err g) e = add-zero (number T₀)
  advance-counts (Ok w) e = node_counts w.state w.steps e (node_of c i theta_0 w.state q)

  ask-counts : Counts (state_ask_of c s q)
  ask-counts = unfold state_ask_of in go (numbers_refusal c q (finite_state s))
    where
      go : (x : Result (Unit {0}) Fault) → Counts (checked_ask c s q x)
      go (Err g) = add-zero (number T₀)
      go (Ok _) = subst (λ (x : Resonant). Counts (kind_ask c s q x)) (sym kind) (unfold resonant_ask in advance-counts (advance_of i s q.t) refl)

-- ---- a list of events

-- what is in force keeps its constants between two resets or accepted restores
refused-restore : (w : Session) (s : List ℕ) (x : ℕ) → ((restore_of w.controller s x).answer ≡ Ok tt → ⊥) → happen w (restores s x) ≡ w
refused-restore w s x h = go (restored_from s x) h
  where
    go : (a : Result Record RestoreError) → ((restored_by w.controller a).answer ≡ Ok tt → ⊥) → after_restore w (restored_by w.controller a) ≡ w
    go (Err e) h = refl
    go (Ok r) h = absurd (h refl)

module _ (lambda-0 lambda-dot-0 theta_0 : Float) (r : Resonance) where
  abbrev Same : Session → Type 0
  Same w = w.controller.constants.resonant ≡ Yes lambda-0 lambda-dot-0 theta_0 r

  ask-adds : (w : Session) → Same w → Good w → (q : Question) → number w.time + (asked_of w.controller q).steps ≡ number (happen w (asks q)).time
  ask-adds w kind good q =
      go w.controller.state (subst (λ (x : Resonant). GoodBy w.controller.constants x w.controller.state w.time) kind good)
    where
      go : (s : Option ResonanceState) → GoodBy w.controller.constants (Yes lambda-0 lambda-dot-0 theta_0 r) s w.time
          → number w.time + (ask_of w.controller.constants s q).steps ≡ number (time_after w.time q.t (ask_of w.controller.constants s q).answer)
      go None g = absurd (g.2 refl)
      go (Some s) g = ask-counts w.controller.constants lambda-0 lambda-dot-0 theta_0 r kind s w.time g q

  -- and stays resonant
  adds : (w : Session) (es : List Event) → Same w → Good w → Between w es → number w.time + asked w es ≡ number (run w es).time
  adds w [] kind good b = add-zero (number w.time)
  adds w (asks q ∷ es) kind good b =
      let k = (asked_of w.controller q).steps in
      let n = asked (happen w (asks q)) es in
      sym (add_assoc (number w.time) k n)
      ∙ ap (λ (m : ℕ). m + n) (ask-adds w kind good q)
      ∙ adds (happen w (asks q)) es kind (happens w (asks q) good) b
  adds w (saves s x room ∷ es) kind good b = adds w es kind good b
  adds w (resets ∷ es) kind good b = absurd b
  adds w (restores s x ∷ es) kind good b =
      let e = refused-restore w s x b.0 in
      let back_to : Same (happen w (restores s x)) = subst Same (sym e) kind in
      ap (λ (v : Session). number v.time + asked (happen w (restores s x)) es) (sym e)
      ∙ adds (happen w (restores s x)) es back_to (happens w (restores s x) good) b.1

  ends : (w : Session) (es : List Event) → Same w → Between w es → Same (run w es)
  ends w [] kind b = kind
  ends w (asks q ∷ es) kind b = ends (happen w (asks q)) es kind b
  ends w (saves s x room ∷ es) kind b = ends w es kind b
  ends w (resets ∷ es) kind b = absurd b
  ends w (restores s x ∷ es) kind b = ends (happen w (restores s x)) es (subst Same (sym (refused-restore w s x b.0)) kind) b.1

runs_on : (w : Session) (es : List Event) → Good w → Good (run w es)
runs_on w [] g = g
runs_on w (e ∷ es) g = runs_on (happen w e) es (happens w e g)

pub steps-add : StepsAdd
steps-add c before es lambda-0 lambda-dot-0 theta_0 r kind b =
    let w = run (start c) before in
    let g = demand3 c before in
    let e = adds lambda-0 lambda-dot-0 theta_0 r w es kind g b in
    let k = ends lambda-0 lambda-dot-0 theta_0 r w es kind b in
    let most = (subst (λ (x : Resonant). GoodBy (run w es).controller.constants x (run w es).controller.state (run w es).time) k (runs_on w es g)).0 in
    (e, omega arith)

-- ---- a restore

-- a replay that answers `Ok` has made the steps of its place
replay-steps-of : (c : Constants) (z : Option ResonanceState) (m : ℕ) → replayed c c.resonant z ≡ Ok m → m ≡ number (stored_time z)
replay-steps-of c z m p = go c.resonant z p
  where
    ok : (i : Integrator) (f : ResonanceState) (b : Bool) (k : ℕ) (z : ResonanceState) (p : Bool) (o : Option ResonanceState) → steps i b k f ≡ o
        → ◌≡◌ {A = Result ℕ ℕ} (cond (p && agrees z o) (Ok (cond p (made i b k f) 0)) (Err (cond p (made i b k f) 0))) (Ok m) → m ≡ k
    ok i f b k z false o e h = cc
    ok i f b k z true None e h = cc
    ok i f b k z true (Some n) e h = go (agrees z (Some n)) h ∙ made_all i b k f n e
      where
        go : (a : Bool) → ◌≡◌ {A = Result ℕ ℕ} (cond a (Ok (made i b k f)) (Err (made i b k f))) (Ok m) → m ≡ made i b k f
        go true h = cc
        go false h = cc

    go : (r : Resonant) (z : Option ResonanceState) → replayed c r z ≡ Ok m → m ≡ number (stored_time z)
    go (No a0) None p = cc
    go (No a0) (Some z) p = cc
    go (Yes lambda-0 lambda-dot-0 theta_0 r) None p = cc
    go (Yes lambda-0 lambda-dot-0 theta_0 r) (Some z) p =
        unfold replay_of in ok (integrator c.orbit_0 lambda-dot-0 r) (fresh_of c.orbit_0.mean_motion lambda-0) (back z.t) (number z.t) z (placed z.t) _ refl p

pub replay-steps : ReplaySteps
replay-steps v s x h = go (restored_from s x) refl h
  where
    go : (a : Result Record RestoreError) → restored_from s x ≡ a → (restored_by v a).answer ≡ Ok tt → (restored_by v a).steps ≡ number (stored_time (restored_by v a).controller.state)
    go (Err e) p h = cc
    go (Ok r) p h = replay-steps-of r.constants r.state r.steps (restored-held s x r p).replay
