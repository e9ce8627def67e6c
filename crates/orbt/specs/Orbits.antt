-- The calls on orbits over plain numbers: how lists of floats stand for constants, states and questions, and what each call leaves. Definitions only.
-- Assumes nothing.
use Rattle.std.specs.Prelude.{ℕ, ◌≡◌, ◌+◌, Bool, true, false, cond, ◌||◌, List, [], ◌∷◌, ◌++◌, drop, eqb, ltb, Float, Option, Some, None, Result, Ok, Err}
use Rattle.std.specs.Option.{option_map_or}
use Rattle.orbit.specs.declared.model.Geopotential.{Geopotential}
use Rattle.orbit.specs.declared.model.SiderealTime.{SiderealTime}
use Rattle.orbit.specs.declared.model.SiderealTime.TheVariants.{Iau, Afspc}
use Rattle.orbit.specs.declared.propagator.Orbit.{Orbit}
use Rattle.orbit.specs.declared.propagator.Constants.{Constants}
use Rattle.record.specs.Record.{kind_of, numbers_of, place, constants_of}
use Rattle.constants.specs.Build.{built_of, number as build_number}
use Rattle.constants.specs.declared.error.BuildError.{BuildError}
use Rattle.constants.specs.declared.geometry.ThirdBody.{ThirdBody}
use Rattle.constants.specs.declared.geometry.Bodies.{Bodies}
use Rattle.constants.specs.declared.given.Given.{Given}
use Rattle.constants.specs.declared.given.Dots.{Dots}
use Rattle.elements.specs.Elements.{number as elements_number}
use Rattle.elements.specs.declared.elements.Periodic.{Periodic}
use Rattle.elements.specs.declared.elements.Question.{Question}
use Rattle.elements.specs.declared.elements.Elements.{Elements}
use Rattle.elements.specs.declared.elements.ElementsError.{ElementsError}
use Rattle.elements.specs.declared.elements.ElementsError.TheVariants.{AngleRefused, OutOfRangeEccentricity, OutOfRangePerturbedEccentricity, ElementsNotFinite}
use Rattle.times.specs.Refusal.{number as fault_number}
use Rattle.resonance.specs.State.{stepped}
use Rattle.resonance.specs.Ask.{Answer, ask_of}
use Rattle.resonance.specs.declared.state.ResonanceState.{ResonanceState}
use Rattle.resonance.specs.declared.state.Refused.{Refused}
use Rattle.resonance.specs.declared.ask.Asked.{Asked}
use Rattle.orbt.specs.Answer.{result_map_or}

-- ---- sidereal time

-- 0 is the IAU expression, any other number the AFSPC one
abbrev pub which_of : ℕ → SiderealTime
which_of which = cond (eqb which 0) Iau Afspc

-- ---- geometry

abbrev pub body_list : ThirdBody → List Float
body_list b =
    b.inclination_sine ∷ b.inclination_cosine ∷ b.delta_right_ascension_sine ∷ b.delta_right_ascension_cosine
    ∷ b.argument_of_perigee_sine ∷ b.argument_of_perigee_cosine ∷ b.mean_anomaly_0 ∷ []

-- the Sun's seven numbers, and the Moon's
abbrev pub bodies_list : Bodies → List Float
bodies_list b = body_list b.solar ++ body_list b.lunar

-- ---- build: ae ke j2 j3 j4; the orbit's six; epoch p1 a0 c1 c4 k0 k1 k14 p14 p15; the Sun's five rates, the Moon's five

abbrev pub geopotential_of : List Float → Geopotential
geopotential_of x = record { ae = place x 0; ke = place x 1; j2 = place x 2; j3 = place x 3; j4 = place x 4 }

abbrev pub orbit_of : List Float → Orbit
orbit_of x =
    record {
      inclination = place x 5;
      right_ascension = place x 6;
      eccentricity = place x 7;
      argument_of_perigee = place x 8;
      mean_anomaly = place x 9;
      mean_motion = place x 10;
    }

abbrev pub given_of : List Float → Given
given_of x =
    record {
      epoch = place x 11;
      p1 = place x 12;
      a0 = place x 13;
      c1 = place x 14;
      c4 = place x 15;
      k0 = place x 16;
      k1 = place x 17;
      k14 = place x 18;
      p14 = place x 19;
      p15 = place x 20;
    }

-- the five rates of a body, from a place on
abbrev pub dots_at : List Float → ℕ → Dots
dots_at x i =
    record {
      inclination = place x i;
      right_ascension = place x (i + 1);
      eccentricity = place x (i + 2);
      argument_of_perigee = place x (i + 3);
      mean_anomaly = place x (i + 4);
    }

unfoldable pub built_from : ℕ → Bool → List Float → Result Constants BuildError
built_from which flag x = built_of (geopotential_of x) (which_of which) (orbit_of x) (given_of x) (dots_at x 21) (dots_at x 26) flag

-- what a build leaves: 16 and all as it was for a flag above 1; else the build's number, kind and constants
abbrev pub BuildBy : Bool → Result Constants BuildError → ℕ → List Float → ℕ → ℕ → List Float → Type 0
BuildBy true b kind constants r kind' constants' = (r ≡ 16) × (kind' ≡ kind) × (constants' ≡ constants)
BuildBy false b kind constants r kind' constants' =
    (r ≡ build_number b) × (kind' ≡ result_map_or (λ c. kind_of c.resonant) b kind) × (constants' ≡ result_map_or numbers_of b constants)

abbrev pub BuildLeaves : ℕ → ℕ → List Float → ℕ → List Float → ℕ → ℕ → List Float → Type 0
BuildLeaves which flag given kind constants r kind' constants' = BuildBy (ltb 1 flag) (built_from which (eqb flag 1) given) kind constants r kind' constants'

-- ---- states

abbrev pub state_of : List Float → ResonanceState
state_of x = record { t = place x 0; mean_motion = place x 1; lambda = place x 2 }

abbrev pub state_list : ResonanceState → List Float
state_list s = s.t ∷ s.mean_motion ∷ s.lambda ∷ []

abbrev pub held_number : Option ResonanceState → ℕ
held_number None = 0
held_number (Some s) = 1

-- a state where `held` is 1
abbrev pub maybe_of : ℕ → List Float → Option ResonanceState
maybe_of held x = cond (eqb held 1) (Some (state_of x)) None

-- ---- asks: t p22 p23; the Sun's five numbers, the Moon's five

-- the five numbers of a body, from a place on
abbrev pub periodic_at : List Float → ℕ → Periodic
periodic_at x i =
    record {
      delta_eccentricity = place x i;
      delta_inclination = place x (i + 1);
      delta_mean_motion = place x (i + 2);
      p4 = place x (i + 3);
      p5 = place x (i + 4);
    }

abbrev pub question_of : List Float → Question
question_of x = record { t = place x 0; p22 = place x 1; p23 = place x 2; solar = periodic_at x 3; lunar = periodic_at x 8 }

abbrev pub elements_list : Elements → List Float
elements_list e =
    e.orbit.inclination ∷ e.orbit.right_ascension ∷ e.orbit.eccentricity ∷ e.orbit.argument_of_perigee ∷ e.orbit.mean_anomaly
    ∷ e.orbit.mean_motion ∷ e.a ∷ e.p32 ∷ e.p33 ∷ e.p34 ∷ e.p35 ∷ e.p36 ∷ []

-- 10 and 11 leave the eccentricity and t in the first two places, and the rest as it was
abbrev pub carried_over : List Float → Float → Float → List Float
carried_over x e t = e ∷ t ∷ drop 2 x

abbrev pub outcome_or : List Float → Result Elements ElementsError → List Float
outcome_or old (Ok e) = elements_list e
outcome_or old (Err AngleRefused) = old
outcome_or old (Err (OutOfRangeEccentricity e t)) = carried_over old e t
outcome_or old (Err (OutOfRangePerturbedEccentricity e t)) = carried_over old e t
outcome_or old (Err ElementsNotFinite) = old

abbrev pub elements_or : List Float → Answer → List Float
elements_or old (Err f) = old
elements_or old (Ok o) = outcome_or old o

abbrev pub answer_number : Answer → ℕ
answer_number (Err f) = fault_number f
answer_number (Ok (Err e)) = elements_number e
answer_number (Ok (Ok e)) = 0

-- a kind above 2, or a flag above 1
abbrev pub is_wrong : ℕ → ℕ → ℕ → Bool
is_wrong kind flag held = ltb 2 kind || ltb 1 flag || ltb 1 held

-- what an ask leaves: 16 and all as it was where a number of the call is wrong; else the answer's number, the state, the elements and the steps
abbrev pub AskBy : Bool → Asked (Option ResonanceState) → List Float → List Float → ℕ → ℕ → List Float → List Float → ℕ → Type 0
AskBy true a state elements steps r state' elements' steps' = (r ≡ 16) × (state' ≡ state) × (elements' ≡ elements) × (steps' ≡ steps)
AskBy false a state elements steps r state' elements' steps' =
    (r ≡ answer_number a.answer) × (state' ≡ option_map_or state_list a.state state) × (elements' ≡ elements_or elements a.answer) × (steps' ≡ a.steps)

abbrev pub AskLeaves : ℕ → ℕ → List Float → ℕ → List Float → List Float → List Float → ℕ → ℕ → List Float → List Float → ℕ → Type 0
AskLeaves kind flag constants held state question elements steps r state' elements' steps' =
    AskBy (is_wrong kind flag held) (ask_of (constants_of kind (eqb flag 1) constants) (maybe_of held state) (question_of question)) state elements steps r state' elements' steps'

-- ---- one step

abbrev pub stepped_number : Result ResonanceState Refused → ℕ
stepped_number (Ok s) = 0
stepped_number (Err r) = fault_number r.fault

abbrev pub stepped_state : Result ResonanceState Refused → List Float
stepped_state (Ok s) = state_list s
stepped_state (Err r) = state_list r.state

abbrev pub StepBy : Bool → Result ResonanceState Refused → List Float → ℕ → List Float → Type 0
StepBy true s state r state' = (r ≡ 16) × (state' ≡ state)
StepBy false s state r state' = (r ≡ stepped_number s) × (state' ≡ stepped_state s)

abbrev pub StepLeaves : ℕ → List Float → ℕ → List Float → ℕ → List Float → Type 0
StepLeaves kind constants back state r state' = StepBy (is_wrong kind 0 back) (stepped (constants_of kind false constants) (eqb back 1) (state_of state)) state r state'
