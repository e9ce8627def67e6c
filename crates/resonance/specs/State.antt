-- The fresh state, one step, and the public step with its refusals. Definitions only. Assumes nothing.
use Rattle.std.specs.Prelude.{Bool, ◌&&◌, cond, Float, Option, Some, None, Result, Err}
use Rattle.std.specs.Bool.{then_some}
use Rattle.std.specs.Option.{ok_or, option_and_then}
use Rattle.std.specs.Float.Ieee.Scale.{finite}
use Rattle.floats.specs.Rounded.{◌⊕◌, ◌⊗◌, dec}
use Rattle.floats.specs.Value.{same_bits}
use Rattle.orbit.specs.Propagator.{finite_constants}
use Rattle.orbit.specs.declared.propagator.Orbit.{Orbit}
use Rattle.orbit.specs.declared.propagator.Resonance.{Resonance}
use Rattle.orbit.specs.declared.propagator.Resonant.{Resonant}
use Rattle.orbit.specs.declared.propagator.Resonant.TheVariants.{No, Yes}
use Rattle.orbit.specs.declared.propagator.Constants.{Constants}
use Rattle.times.specs.declared.time.Fault.{Fault}
use Rattle.times.specs.declared.time.Fault.TheVariants.{NumberNotFinite, OrbitNonResonant, StateMisplaced, RatesRefused}
use Rattle.rates.specs.declared.Integrator.{Integrator}
use Rattle.rates.specs.declared.Rates.{Rates}
use Rattle.resonance.specs.declared.state.ResonanceState.{ResonanceState}
use Rattle.resonance.specs.declared.state.Refused.{Refused}
use Rattle.times.specs.Time.{zero_time, delta, placed}
use Rattle.resonance.specs.Rates.{rates_of}

-- a fresh state has time +0.0, mean motion n and lambda_0
abbrev pub fresh_of : Float → Float → ResonanceState
fresh_of n lambda-0 = record { t = zero_time; mean_motion = n; lambda = lambda-0 }

abbrev pub fresh_by : Float → Resonant → Option ResonanceState
fresh_by n (No a0) = None
fresh_by n (Yes lambda-0 lambda-dot-0 sidereal-time-0 resonance) = Some (fresh_of n lambda-0)

-- the fresh state of the constants, and no state for a non-resonant orbit
abbrev pub fresh : Constants → Option ResonanceState
fresh c = fresh_by c.orbit_0.mean_motion c.resonant

-- its three numbers are finite
abbrev pub finite_state : ResonanceState → Bool
finite_state s = finite s.t && finite s.mean_motion && finite s.lambda

-- two states that agree in every bit
abbrev pub same_state : ResonanceState → ResonanceState → Bool
same_state a b = same_bits a.t b.t && same_bits a.mean_motion b.mean_motion && same_bits a.lambda b.lambda

-- ---- one step

-- 720² / 2
unfoldable pub half_square : Float
half_square = dec 259200 0

-- time + Δ; mean motion + (ni_dot·Δ + ni_ddot·259200); lambda + (lambda_dot·Δ + ni_dot·259200)
abbrev pub moved : ResonanceState → Float → Rates → ResonanceState
moved s Δ r = record {
  t = s.t ⊕ Δ;
  mean_motion = s.mean_motion ⊕ (r.ni_dot ⊗ Δ ⊕ r.ni_ddot ⊗ half_square);
  lambda = s.lambda ⊕ (r.lambda_dot ⊗ Δ ⊕ r.ni_dot ⊗ half_square);
}

-- none, which is 8, where a stepped value is not finite
abbrev pub if_finite : ResonanceState → Option ResonanceState
if_finite s = then_some (finite_state s) s

unfoldable pub moved_by : ResonanceState → Float → Rates → Option ResonanceState
moved_by s Δ r = if_finite (moved s Δ r)

-- the state after a step of 720 forward or back, with the rates of the old state; none where 8 arises
unfoldable pub step_of : Integrator → Bool → ResonanceState → Option ResonanceState
step_of c b s = option_and_then (λ r. moved_by s (delta b) r) (rates_of c s)

-- ---- the public step: refusals 3, 4, 6, 8 in this order. Each hands the state back

abbrev pub refused_with : Fault → ResonanceState → Refused
refused_with f s = record { fault = f; state = s }

unfoldable pub placed_step : Integrator → Bool → ResonanceState → Result ResonanceState Refused
placed_step c b s = cond (placed s.t) (ok_or (step_of c b s) (refused_with RatesRefused s)) (Err (refused_with StateMisplaced s))

-- what the integrator takes of the constants
abbrev pub integrator : Orbit → Float → Resonance → Integrator
integrator o lambda-dot-0 r = record { argument_of_perigee_0 = o.argument_of_perigee; lambda_dot_0 = lambda-dot-0; resonance = r }

abbrev pub stepped_by : Orbit → Bool → ResonanceState → Resonant → Result ResonanceState Refused
stepped_by o b s (No a0) = Err (refused_with OrbitNonResonant s)
stepped_by o b s (Yes lambda-0 lambda-dot-0 sidereal-time-0 resonance) = placed_step (integrator o lambda-dot-0 resonance) b s

unfoldable pub stepped : Constants → Bool → ResonanceState → Result ResonanceState Refused
stepped c b s = cond (finite_constants c && finite_state s) (stepped_by c.orbit_0 b s c.resonant) (Err (refused_with NumberNotFinite s))
