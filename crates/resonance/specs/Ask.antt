-- The whole ask: the checks of the time and the numbers, the stepping, and the answer on a node. Definitions only. Assumes nothing.
use Rattle.std.specs.Prelude.{ℕ, Bool, true, false, ◌&&◌, Float, Option, Some, None, Result, Ok, Err}
use Rattle.std.specs.Float.Ieee.Scale.{finite}
use Rattle.floats.specs.Rounded.{◌⊕◌, ◌⊖◌, ◌⊗◌, ◌⊘◌, ◌rem◌, dec}
use Rattle.floats.specs.Power.{sq}
use Rattle.floats.specs.Value.{at_most}
use Rattle.floats.specs.Root.{two_thirds}
use Rattle.orbit.specs.Model.{tau}
use Rattle.orbit.specs.Propagator.{finite_constants}
use Rattle.orbit.specs.declared.propagator.Resonance.{Resonance}
use Rattle.orbit.specs.declared.propagator.Resonance.TheVariants.{OneDay, HalfDay}
use Rattle.orbit.specs.declared.propagator.Resonant.{Resonant}
use Rattle.orbit.specs.declared.propagator.Resonant.TheVariants.{No, Yes}
use Rattle.orbit.specs.declared.propagator.Constants.{Constants}
use Rattle.elements.specs.Elements.{finite_question, elements_of}
use Rattle.elements.specs.declared.elements.Elements.{Elements}
use Rattle.elements.specs.declared.elements.ElementsError.{ElementsError}
use Rattle.elements.specs.declared.elements.Question.{Question}
use Rattle.times.specs.declared.time.Fault.{Fault}
use Rattle.times.specs.declared.time.Fault.TheVariants.{TimeNotFinite, TimeBeyondLimit, NumberNotFinite, OrbitNonResonant, NoState, RatesRefused}
use Rattle.rates.specs.declared.Integrator.{Integrator}
use Rattle.rates.specs.declared.Rates.{Rates}
use Rattle.resonance.specs.declared.state.ResonanceState.{ResonanceState}
use Rattle.resonance.specs.declared.state.Refused.{Refused}
use Rattle.resonance.specs.declared.advance.Walked.{Walked}
use Rattle.resonance.specs.declared.ask.Asked.{Asked}
use Rattle.times.specs.Time.{limit}
use Rattle.resonance.specs.Rates.{rates_of}
use Rattle.resonance.specs.State.{finite_state, integrator}
use Rattle.resonance.specs.Advance.{advance_of}

-- ---- the answer on a node: p28 and p29 with the rest of the time, t less the state's

-- refusals 1 to 8; or what was reached: elements, or refusals 9 to 12
abbrev pub Answer : Type 0
Answer = Result (Result Elements ElementsError) Fault

-- θ = θ₀ + 4.37526908801129966e-3 t rem 2π
unfoldable pub theta_at : Float → Float → Float
theta_at theta_0 t = (theta_0 ⊕ t ⊗ dec 437526908801129966 20) rem tau

-- the base of p28, whose power 2/3 is taken: ke / (n + ni_dot r + ni_ddot r² / 2)
unfoldable pub base_of : ResonanceState → Float → Rates → Float → Float
base_of s ke rates t =
    let r = t ⊖ s.t in
    ke ⊘ (s.mean_motion ⊕ rates.ni_dot ⊗ r ⊕ rates.ni_ddot ⊗ sq r ⊗ dec 5 1)

-- lambda + lambda_dot r + ni_dot r² / 2, less p22 and p23 and with θ, or less twice p22 and with twice θ
abbrev pub lambda_at : ResonanceState → Rates → Float → Float
lambda_at s rates r = s.lambda ⊕ rates.lambda_dot ⊗ r ⊕ rates.ni_dot ⊗ sq r ⊗ dec 5 1

abbrev pub p29_by : Resonance → Float → Float → Question → Float
p29_by (OneDay dr1 dr2 dr3) lambda theta q = lambda ⊖ q.p22 ⊖ q.p23 ⊕ theta
p29_by (HalfDay d2201 d2211 d3210 d3222 d4410 d4422 d5220 d5232 d5421 d5433 k14) lambda theta q = lambda ⊖ dec 2 0 ⊗ q.p22 ⊕ dec 2 0 ⊗ theta

unfoldable pub p29_of : ResonanceState → Resonance → Rates → Float → Question → Float
p29_of s resonance rates theta q = p29_by resonance (lambda_at s rates (q.t ⊖ s.t)) theta q

-- 8 where the state's own rates are refused
abbrev pub node_by : Constants → Integrator → Float → ResonanceState → Question → Option Rates → Answer
node_by c i theta_0 s q None = Err RatesRefused
node_by c i theta_0 s q (Some rates) =
    Ok (elements_of c
    (two_thirds (base_of s c.geopotential.ke rates q.t))
    (p29_of s i.resonance rates (theta_at theta_0 q.t) q)
    q)

unfoldable pub node_of : Constants → Integrator → Float → ResonanceState → Question → Answer
node_of c i theta_0 s q = node_by c i theta_0 s q (rates_of i s)

-- ---- the checks of the time and the numbers

-- in the table's order: 1 where the time is not finite, 2 where it is beyond the limit, 3 where another number is not finite
abbrev pub refusal_by : Bool → Bool → Bool → Result (Unit {0}) Fault
refusal_by false within numbers = Err TimeNotFinite
refusal_by true false numbers = Err TimeBeyondLimit
refusal_by true true false = Err NumberNotFinite
refusal_by true true true = Ok tt

-- 3 looks at every other number given: those asked with, the state's, and those of the constants, used or not
unfoldable pub numbers_refusal : Constants → Question → Bool → Result (Unit {0}) Fault
numbers_refusal c q state-finite = refusal_by (finite q.t) (at_most limit q.t) (finite_question q && state-finite && finite_constants c)

-- ---- an ask of a state

abbrev pub asked : {S : Type 0} → Answer → S → ℕ → Asked S
asked a s k = record { answer = a; state = s; steps = k }

-- 1 to 8 return the state as given and 0 steps
abbrev pub given_back : Fault → ResonanceState → Asked ResonanceState
given_back f s = asked (Err f) s 0

-- elements and 9 to 12 return the advanced state n and its steps
abbrev pub reached_by : ResonanceState → ResonanceState → ℕ → Answer → Asked ResonanceState
reached_by s n k (Err f) = given_back f s
reached_by s n k (Ok o) = asked (Ok o) n k

-- 6 and 7 by the two times, 8 for every state visited, the last included
abbrev pub advanced_by : Constants → Integrator → Float → ResonanceState → Question → Result Walked Refused → Asked ResonanceState
advanced_by c i theta_0 s q (Err r) = given_back r.fault r.state
advanced_by c i theta_0 s q (Ok w) = reached_by s w.state w.steps (node_of c i theta_0 w.state q)

unfoldable pub resonant_ask : Constants → Integrator → Float → ResonanceState → Question → Asked ResonanceState
resonant_ask c i theta_0 s q = advanced_by c i theta_0 s q (advance_of i s q.t)

-- 4: state given, orbit non-resonant
abbrev pub kind_ask : Constants → ResonanceState → Question → Resonant → Asked ResonanceState
kind_ask c s q (No a0) = given_back OrbitNonResonant s
kind_ask c s q (Yes lambda-0 lambda-dot-0 theta_0 resonance) = resonant_ask c (integrator c.orbit_0 lambda-dot-0 resonance) theta_0 s q

abbrev pub checked_ask : Constants → ResonanceState → Question → Result (Unit {0}) Fault → Asked ResonanceState
checked_ask c s q (Err f) = given_back f s
checked_ask c s q (Ok _) = kind_ask c s q c.resonant

unfoldable pub state_ask_of : Constants → ResonanceState → Question → Asked ResonanceState
state_ask_of c s q = checked_ask c s q (numbers_refusal c q (finite_state s))

-- ---- an ask with none or a state

-- p29 of a non-resonant orbit: M₀ + mean_anomaly_dot t
unfoldable pub plain_p29 : Constants → Float → Float
plain_p29 c t = c.orbit_0.mean_anomaly ⊕ c.mean_anomaly_dot ⊗ t

-- 5: no state, orbit resonant. A non-resonant orbit has a0 for p28
abbrev pub plain_answer : Constants → Question → Resonant → Answer
plain_answer c q (No a0) = Ok (elements_of c (Some a0) (plain_p29 c q.t) q)
plain_answer c q (Yes lambda-0 lambda-dot-0 theta_0 resonance) = Err NoState

abbrev pub checked_none : Constants → Question → Result (Unit {0}) Fault → Answer
checked_none c q (Err f) = Err f
checked_none c q (Ok _) = plain_answer c q c.resonant

unfoldable pub none_answer_of : Constants → Question → Answer
none_answer_of c q = checked_none c q (numbers_refusal c q true)

abbrev pub held : Asked ResonanceState → Asked (Option ResonanceState)
held a = asked a.answer (Some a.state) a.steps

abbrev pub ask_of : Constants → Option ResonanceState → Question → Asked (Option ResonanceState)
ask_of c None q = asked (none_answer_of c q) None 0
ask_of c (Some s) q = held (state_ask_of c s q)
