-- How much stepping asks and restores can cost. Definitions and statements. Assumes nothing.
use Rattle.std.specs.Prelude.{ℕ, ◌+◌, ◌≤◌, ◌^◌, ◌≡◌, List, [], ◌∷◌, Ok, Float}
use Rattle.orbit.specs.declared.propagator.Resonance.{Resonance}
use Rattle.orbit.specs.declared.propagator.Resonant.TheVariants.{Yes}
use Rattle.orbit.specs.declared.propagator.Constants.{Constants}
use Rattle.times.specs.Time.{number}
use Rattle.controller.specs.declared.Controller.{Controller}
use Rattle.controller.specs.Running.{asked_of, restore_of}
use Rattle.controller.specs.Demand.{Event, asks, saves, resets, restores, Session, happen, run, start, stored_time}

-- events between two resets or accepted restores
abbrev pub Between : Session → List Event → Type 0
Between w [] = Unit {0}
Between w (asks q ∷ es) = Between (happen w (asks q)) es
Between w (saves s x room ∷ es) = Between w es
Between w (resets ∷ es) = ⊥
Between w (restores s x ∷ es) = ((restore_of w.controller s x).answer ≡ Ok tt → ⊥) × Between (happen w (restores s x)) es

-- the steps that the asks among them report, together
abbrev pub asked : Session → List Event → ℕ
asked w [] = 0
asked w (asks q ∷ es) = (asked_of w.controller q).steps + asked (happen w (asks q)) es
asked w (saves s x room ∷ es) = asked w es
asked w (resets ∷ es) = asked (happen w resets) es
asked w (restores s x ∷ es) = asked (happen w (restores s x)) es

-- they are the steps in the time at the end less those in the time at the start, so never more than 2 ^ 20
abbrev pub StepsAdd : Type 0
StepsAdd =
    (c : Constants) (before es : List Event) (lambda-0 lambda-dot-0 theta_0 : Float) (r : Resonance)
    → let w = run (start c) before in
    w.controller.constants.resonant ≡ Yes lambda-0 lambda-dot-0 theta_0 r → Between w es
    → (number w.time + asked w es ≡ number (run w es).time) × (asked w es ≤ 2 ^ 20)

-- an accepted restore has made the steps in the stored time
abbrev pub ReplaySteps : Type 0
ReplaySteps =
    (v : Controller) (s : List ℕ) (x : ℕ)
    → let r = restore_of v s x in
    r.answer ≡ Ok tt → r.steps ≡ number (stored_time r.controller.state)
