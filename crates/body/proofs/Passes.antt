-- What passes an examination is what was examined, and has passed each test. Assumes nothing.
use mathlib.Core.Path.{◌≡◌, refl, sym, ap, ◌∙◌}
use mathlib.Core.Bool.{Bool, true, false, ◌&&◌}
use mathlib.Core.List.{List}
use Prim.Native.Nat.{ℕ}
use Rattle.std.specs.Prelude.{Option, Result, Ok, Err}
use Rattle.orbit.specs.declared.propagator.Constants.{Constants}
use Rattle.orbit.specs.Propagator.{finite_constants}
use Rattle.resonance.specs.declared.state.ResonanceState.{ResonanceState}
use Rattle.body.specs.Examine.{of_its_class, finite_held, replayed, examined}
use Rattle.body.specs.Read.{shaped, constants_in, state_in, body_read}
use Rattle.body.specs.declared.examine.Record.{Record}
use Rattle.body.specs.declared.examine.BodyError.{BodyError}
use Rattle.body.specs.declared.examine.BodyError.TheVariants.{Wrong, NumberNotFinite, StateWrong}

-- an `Ok` is of one record, and is no `Err`
same-ok : (x y : Record) → ◌≡◌ {A = Result Record BodyError} (Ok x) (Ok y) → x ≡ y
same-ok x y h = cc

not-err : (x : BodyError) (y : Record) → ◌≡◌ {A = Result Record BodyError} (Err x) (Ok y) → ⊥
not-err x y h = cc

pub record Passes (c : Constants) (z : Option ResonanceState) (r : Record) : Type 0 where
  pub constants : r.constants ≡ c
  pub state : r.state ≡ z
  pub replay : replayed r.constants r.constants.resonant r.state ≡ Ok r.steps

pub passes : (c : Constants) (z : Option ResonanceState) (r : Record) → examined c z ≡ Ok r → Passes c z r
passes c z r h = go (of_its_class c) (finite_constants c && finite_held z) (replayed c c.resonant z) refl refl refl
  where
    go : (p q : Bool) (t : Result ℕ ℕ) → of_its_class c ≡ p → (finite_constants c && finite_held z) ≡ q → replayed c c.resonant z ≡ t → Passes c z r
    go true true (Ok k) a b d =
        let e : examined c z ≡ Ok (record { constants = c; state = z; steps = k }) = unfold examined in simp (a, b, d) in
        let s = same-ok _ _ (sym h ∙ e) in
        let e₁ : r.constants ≡ c = ap (λ (q : Record). q.constants) s in
        let e₂ : r.state ≡ z = ap (λ (q : Record). q.state) s in
        record {
          constants = e₁;
          state = e₂;
          replay =
              ap (λ (d : Constants). replayed d d.resonant r.state) e₁ ∙ ap (replayed c c.resonant) e₂ ∙ d
              ∙ ap Ok (sym (ap (λ (q : Record). q.steps) s));
        }
    go true true (Err k) a b d =
        let e : examined c z ≡ Err (StateWrong k) = unfold examined in simp (a, b, d) in
        absurd (not-err _ _ (sym e ∙ h))
    go true false t a b d =
        let e : examined c z ≡ Err NumberNotFinite = unfold examined in simp (a, b) in
        absurd (not-err _ _ (sym e ∙ h))
    go false q t a b d =
        let e : examined c z ≡ Err Wrong = unfold examined in simp a in
        absurd (not-err _ _ (sym e ∙ h))

-- a body that was read has passed as what it says
pub read-passes : (b : List ℕ) (r : Record) → body_read b ≡ Ok r → Passes (constants_in b) (state_in b) r
read-passes b r h = go (shaped b) refl
  where
    go : (t : Bool) → shaped b ≡ t → Passes (constants_in b) (state_in b) r
    go true e =
        let k : body_read b ≡ examined (constants_in b) (state_in b) = unfold body_read in simp e in
        passes (constants_in b) (state_in b) r (sym k ∙ h)
    go false e =
        let k : body_read b ≡ Err Wrong = unfold body_read in simp e in
        absurd (not-err _ _ (sym k ∙ h))
