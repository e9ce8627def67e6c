-- Demand 3 by induction over the events: an ask that is not refused 1 to 8 ends at the node that the fresh state reaches (Restart), one that is leaves the state,
-- and an accepted restore brings the state that its own steps give, since floats read from bytes are equal where their bits are. Assumes nothing.
use mathlib.Core.Path.{◌≡◌, refl, sym, ap, ◌∙◌, subst}
use Prim.Native.Nat.{ℕ}
use mathlib.Core.Bool.{Bool, true, false, not, cond, ◌&&◌}
use mathlib.Core.List.{List, [], ◌∷◌}
use lib.Dec.{T, eqb, eqb→eq, lit≤}
use lib.Ieee.{Float, binary64, fits, to_bits, of_bits}
use lib.Ieee.Bits.{of_bits-to_bits, of_bits-fits}
use lib.Ieee.Fits.{add-fits, and_l, and_r}
use Rattle.std.specs.Prelude.{Option, Some, None, Result, Ok, Err}
use Rattle.floats.specs.Value.{same_bits, at_most, negative, is_zero}
use Rattle.orbit.specs.declared.propagator.Resonance.{Resonance}
use Rattle.orbit.specs.declared.propagator.Resonant.{Resonant}
use Rattle.orbit.specs.declared.propagator.Resonant.TheVariants.{No, Yes}
use Rattle.orbit.specs.declared.propagator.Constants.{Constants}
use Rattle.elements.specs.declared.elements.Question.{Question}
use Rattle.times.specs.declared.time.Fault.{Fault}
use Rattle.rates.specs.declared.Integrator.{Integrator}
use Rattle.resonance.specs.declared.state.ResonanceState.{ResonanceState}
use Rattle.resonance.specs.declared.ask.Asked.{Asked}
use Rattle.times.specs.Time.{limit, number, back, zero_time, placed, multiple, refusal}
use Rattle.resonance.specs.State.{fresh_of, fresh_by, fresh, finite_state, same_state, step_of, integrator}
use Rattle.resonance.specs.Advance.{steps, made, agrees, replay_of}
use Rattle.resonance.specs.Ask.{Answer, numbers_refusal, given_back, advanced_by, resonant_ask, kind_ask, checked_ask, state_ask_of, ask_of}
use Rattle.record.specs.Record.{constants_of, resonant_of, one_day_of, half_day_of}
use Rattle.body.specs.declared.examine.Record.{Record}
use Rattle.body.specs.Floats.{float_at, floats}
use Rattle.body.specs.Body.{state_start}
use Rattle.body.specs.Examine.{replayed as replayedOf}
use Rattle.body.specs.Read.{kind_in, constants_in, state_at, held_at}
use Rattle.body.proofs.Passes.{read-passes}
use Rattle.store.proofs.Kept.{restored-read}
use Rattle.store.specs.declared.restore.RestoreError.{RestoreError}
use Rattle.store.specs.Restore.{restored_from}
use Rattle.controller.specs.Running.{restored_by}
use Rattle.controller.specs.Demand.{Event, asks, saves, resets, restores, Session, time_after, after_restore, stored_time, happen, run, start, GoodBy, Good, Demand3}
use Rattle.times.proofs.Accepted.{accepted-most, number-most}
use Rattle.resonance.proofs.Steps.{step_is, steps-keep}
use Rattle.resonance.proofs.Walk.{advance-refused}
use Rattle.controller.proofs.Restart.{OnNode, resonant}

-- ---- states that a machine holds are equal where their bits are

-- a state that a machine holds: its three numbers are floats of the format
pub record Held (z : ResonanceState) : Type 0 where
  pub time : T (fits binary64 z.t)
  pub motion : T (fits binary64 z.mean_motion)
  pub longitude : T (fits binary64 z.lambda)

abbrev pub HeldMaybe : Option ResonanceState → Type 0
HeldMaybe None = Unit {0}
HeldMaybe (Some z) = Held z

bits-same : (x y : Float) → T (fits binary64 x) → T (fits binary64 y) → T (same_bits x y) → x ≡ y
bits-same x y F G t = sym (of_bits-to_bits binary64 x F) ∙ ap (of_bits binary64) (eqb→eq (to_bits binary64 x) (to_bits binary64 y) t) ∙ of_bits-to_bits binary64 y G

states-same : (s z : ResonanceState) → Held s → Held z → T (same_state s z) → s ≡ z
states-same s z h k t =
    let a = same_bits s.t z.t in
    let b = same_bits s.mean_motion z.mean_motion in
    let d = same_bits s.lambda z.lambda in
    let p : s.t ≡ z.t = bits-same s.t z.t h.time k.time (and_l a b (and_l (a && b) d t)) in
    let q : s.mean_motion ≡ z.mean_motion = bits-same s.mean_motion z.mean_motion h.motion k.motion (and_r a b (and_l (a && b) d t)) in
    let r : s.lambda ≡ z.lambda = bits-same s.lambda z.lambda h.longitude k.longitude (and_r (a && b) d t) in
    ap (λ (x : Float). record { t = x; mean_motion = s.mean_motion; lambda = s.lambda }) p
    ∙ ap (λ (x : Float). record { t = z.t; mean_motion = x; lambda = s.lambda }) q
    ∙ ap (λ (x : Float). record { t = z.t; mean_motion = z.mean_motion; lambda = x }) r

-- a step gives floats of the format
step-held : (i : Integrator) (b : Bool) (s n : ResonanceState) → step_of i b s ≡ Some n → Held n
step-held i b s n p =
    let m = step_is i b s n p in
    subst Held m.is (record { time = add-fits binary64 _ _; motion = add-fits binary64 _ _; longitude = add-fits binary64 _ _ })

-- ---- a resonant orbit

-- a replay answers `Ok` where its test holds
passes : (b : Bool) (n k : ℕ) → ◌≡◌ {A = Result ℕ ℕ} (cond b (Ok n) (Err n)) (Ok k) → T b
passes true n k p = tt
passes false n k p = cc

module _ (c : Constants) (lambda-0 lambda-dot-0 theta_0 : Float) (r : Resonance) (kind : c.resonant ≡ Yes lambda-0 lambda-dot-0 theta_0 r) where
  abbrev i : Integrator
  i = integrator c.orbit_0 lambda-dot-0 r

  abbrev f : ResonanceState
  f = fresh_of c.orbit_0.mean_motion lambda-0

  abbrev GoodAt : Option ResonanceState → Float → Type 0
  GoodAt s T = GoodBy c (Yes lambda-0 lambda-dot-0 theta_0 r) s T

  fresh-good : GoodAt (Some f) zero_time
  unfolding steps
  fresh-good = (lit≤ tt, refl, λ p. cc)

  -- an ask of the state in force
  module _ (s : ResonanceState) (T₀ : Float) (good : GoodAt (Some s) T₀) (q : Question) where
    abbrev After : Asked ResonanceState → Type 0
    After a = GoodAt (Some a.state) (time_after T₀ q.t a.answer)

    resonant-after : After (resonant_ask c i theta_0 s q)
    resonant-after = go (refusal s.t q.t) refl
      where
        passed : (a : Asked ResonanceState) (expected : Answer) → refusal s.t q.t ≡ Ok tt → OnNode a s expected (steps i (back q.t) (number q.t) f) → (o : Answer) → a.answer ≡ o → GoodAt (Some a.state) (time_after T₀ q.t o)
        passed a e p w (Err g) k = subst (λ (x : ResonanceState). GoodAt (Some x) T₀) (sym (w.given g k)) good
        passed a e p w (Ok o) k = (accepted-most s.t q.t p, sym (w.state o k), λ p. cc)

        go : (x : Result (Unit {0}) Fault) → refusal s.t q.t ≡ x → After (resonant_ask c i theta_0 s q)
        go (Ok _) p =
            let a = resonant_ask c i theta_0 s q in
            passed a _ p (resonant c i c.orbit_0.mean_motion lambda-0 theta_0 q s (back T₀, number T₀, good.0, good.1) p) a.answer refl
        go (Err g) p = subst After (refused-ask g p) good
          where
            refused-ask : (g : Fault) → refusal s.t q.t ≡ Err g → given_back g s ≡ resonant_ask c i theta_0 s q
            refused-ask g p = unfold resonant_ask in (ap (advanced_by c i theta_0 s q) (advance-refused i s q.t g p))

    ask-after : After (state_ask_of c s q)
    unfolding state_ask_of
    ask-after = go (numbers_refusal c q (finite_state s))
      where
        go : (x : Result (Unit {0}) Fault) → After (checked_ask c s q x)
        go (Err g) = good
        go (Ok _) = subst (λ (x : Resonant). After (kind_ask c s q x)) (sym kind) resonant-after

  -- a state that passes 18
  replayed : (z : ResonanceState) (k : ℕ) → Held f → Held z → replay_of i c.orbit_0.mean_motion lambda-0 z ≡ Ok k → GoodAt (Some z) z.t
  unfolding replay_of
  replayed z k hf hz p =
      let o = steps i (back z.t) (number z.t) f in
      let t : T (placed z.t && agrees z o) = passes (placed z.t && agrees z o) (cond (placed z.t) (made i (back z.t) (number z.t) f) 0) k p in
      let set : T (placed z.t) = and_l (placed z.t) (agrees z o) t in
      let near : T (at_most limit z.t) = and_r (multiple z.t) (at_most limit z.t) (and_l (multiple z.t && at_most limit z.t) (not (negative z.t && is_zero z.t)) set) in
      (number-most z.t near, go o refl (and_r (placed z.t) (agrees z o) t), λ p. cc)
    where
      go : (o : Option ResonanceState) → steps i (back z.t) (number z.t) f ≡ o → T (agrees z o) → steps i (back z.t) (number z.t) f ≡ Some z
      go None e t = absurd t
      go (Some x) e t = e ∙ ap Some (states-same x z (steps-keep i (back z.t) Held (step-held i (back z.t)) (number z.t) f x hf e) hz t)

-- ---- what a restore brings

floats-fit : (at : ℕ) (b : List ℕ) → T (fits binary64 (float_at at b))
unfolding float_at
floats-fit at b = of_bits-fits binary64 _

state-held : (kind : ℕ) (b : List ℕ) → HeldMaybe (held_at kind b)
state-held kind b = go (eqb kind 0)
  where
    go : (t : Bool) → HeldMaybe (cond t None (Some (state_at (state_start kind) b)))
    go true = tt
    go false = record { time = floats-fit _ b; motion = floats-fit _ b; longitude = floats-fit _ b }

fresh-held : (b : List ℕ) → HeldMaybe (fresh (constants_in b))
unfolding constants_of resonant_of floats fits
fresh-held b = go (eqb (kind_in b) 1) (eqb (kind_in b) 2)
  where
    go : (p q : Bool)
        → HeldMaybe (fresh_by (float_at 88 b) (cond p (Yes (float_at 168 b) (float_at 176 b) (float_at 184 b) (one_day_of (floats 34 8 b))) (cond q (Yes (float_at 168 b) (float_at 176 b) (float_at 184 b) (half_day_of (floats 34 8 b))) (No (float_at 168 b)))))
    go true q = record { time = tt; motion = floats-fit 88 b; longitude = floats-fit 168 b }
    go false true = record { time = tt; motion = floats-fit 88 b; longitude = floats-fit 168 b }
    go false false = tt

pub record Brought (r : Record) : Type 0 where
  pub fresh : HeldMaybe (fresh r.constants)
  pub state : HeldMaybe r.state
  pub replay : replayedOf r.constants r.constants.resonant r.state ≡ Ok r.steps

pub restored-held : (s : List ℕ) (x : ℕ) (r : Record) → restored_from s x ≡ Ok r → Brought r
restored-held s x r h =
    let b = restored-read s x r h in
    let p = read-passes b.0 r b.1 in
    record {
      fresh = subst (λ (d : Constants). HeldMaybe (fresh d)) (sym p.constants) (fresh-held b.0);
      state = subst HeldMaybe (sym p.state) (state-held (kind_in b.0) b.0);
      replay = p.replay;
    }

-- ---- each event, and the list

module _ (w : Session) where
  abbrev k : Constants
  k = w.controller.constants

  after-ask : (r : Resonant) → k.resonant ≡ r → GoodBy k r w.controller.state w.time → (q : Question)
      → GoodBy k r (happen w (asks q)).controller.state (happen w (asks q)).time
  after-ask (No a0) kind good q = ap (λ (s : Option ResonanceState). (ask_of k s q).state) good
  after-ask (Yes lambda-0 lambda-dot-0 theta_0 r) kind good q = go w.controller.state good
    where
      go : (s : Option ResonanceState) → GoodBy k (Yes lambda-0 lambda-dot-0 theta_0 r) s w.time → GoodBy k (Yes lambda-0 lambda-dot-0 theta_0 r) (ask_of k s q).state (time_after w.time q.t (ask_of k s q).answer)
      go None g = absurd (g.2 refl)
      go (Some s) g = ask-after k lambda-0 lambda-dot-0 theta_0 r kind s w.time g q

fresh_at : (c : Constants) (r : Resonant) → c.resonant ≡ r → GoodBy c r (fresh c) zero_time
fresh_at c (No a0) kind = ap (fresh_by c.orbit_0.mean_motion) kind
fresh_at c (Yes lambda-0 lambda-dot-0 theta_0 r) kind =
    subst (λ (s : Option ResonanceState). GoodBy c (Yes lambda-0 lambda-dot-0 theta_0 r) s zero_time) (sym (ap (fresh_by c.orbit_0.mean_motion) kind)) (fresh-good c lambda-0 lambda-dot-0 theta_0 r kind)

-- a record that passes its replay
after-replay : (c : Constants) (s : Option ResonanceState) (k : ℕ) → HeldMaybe (fresh c) → HeldMaybe s → replayedOf c c.resonant s ≡ Ok k → GoodBy c c.resonant s (stored_time s)
after-replay c s k hf hs p = go c.resonant refl s hs p
  where
    go : (r : Resonant) → c.resonant ≡ r → (s : Option ResonanceState) → HeldMaybe s → replayedOf c r s ≡ Ok k → GoodBy c r s (stored_time s)
    go (No a0) kind None h p = refl
    go (No a0) kind (Some z) h p = cc
    go (Yes lambda-0 lambda-dot-0 theta_0 r) kind None h p = cc
    go (Yes lambda-0 lambda-dot-0 theta_0 r) kind (Some z) h p =
        replayed c lambda-0 lambda-dot-0 theta_0 r kind z k (subst HeldMaybe (ap (fresh_by c.orbit_0.mean_motion) kind) hf) h p

after-restore : (w : Session) → Good w → (s : List ℕ) (x : ℕ) → Good (happen w (restores s x))
after-restore w good s x = go (restored_from s x) refl
  where
    go : (a : Result Record RestoreError) → restored_from s x ≡ a → Good (after_restore w (restored_by w.controller a))
    go (Err e) p = good
    go (Ok r) p = let h = restored-held s x r p in after-replay r.constants r.state r.steps h.fresh h.state h.replay

pub happens : (w : Session) (e : Event) → Good w → Good (happen w e)
happens w (asks q) good = after-ask w w.controller.constants.resonant refl good q
happens w (saves s x room) good = good
happens w resets good = fresh_at w.controller.constants w.controller.constants.resonant refl
happens w (restores s x) good = after-restore w good s x

runs : (w : Session) (es : List Event) → Good w → Good (run w es)
runs w [] good = good
runs w (e ∷ es) good = runs (happen w e) es (happens w e good)

pub demand3 : Demand3
demand3 c es = runs (start c) es (fresh_at c c.resonant refl)
