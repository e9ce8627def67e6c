-- What a record must pass: refusals 16, 17 and 18 of constants with none or a state. Definitions only. Assumes nothing.
use Rattle.std.specs.Prelude.{ℕ, Bool, true, cond, ◌&&◌, eqb, Result, Ok, Err, Option, Some, None}
use Rattle.orbit.specs.Class.{class_of}
use Rattle.orbit.specs.Propagator.{finite_constants}
use Rattle.orbit.specs.declared.propagator.Resonant.{Resonant}
use Rattle.orbit.specs.declared.propagator.Resonant.TheVariants.{No, Yes}
use Rattle.orbit.specs.declared.propagator.Constants.{Constants}
use Rattle.record.specs.Record.{kind_of, class_kind}
use Rattle.resonance.specs.declared.state.ResonanceState.{ResonanceState}
use Rattle.resonance.specs.State.{finite_state, integrator}
use Rattle.resonance.specs.Advance.{replay_of}
use Rattle.body.specs.declared.examine.Record.{Record}
use Rattle.body.specs.declared.examine.BodyError.{BodyError}
use Rattle.body.specs.declared.examine.BodyError.TheVariants.{Wrong, NumberNotFinite, StateWrong}

-- document 01's number of a record that does not pass
abbrev pub number : BodyError → ℕ
number Wrong = 16
number NumberNotFinite = 17
number (StateWrong k) = 18

-- the steps that its replay made
abbrev pub steps_of : Result Record BodyError → ℕ
steps_of (Err Wrong) = 0
steps_of (Err NumberNotFinite) = 0
steps_of (Err (StateWrong k)) = k
steps_of (Ok r) = r.steps

-- not 16: the kind is the class of the orbit
unfoldable pub of_its_class : Constants → Bool
of_its_class c = eqb (kind_of c.resonant) (class_kind (class_of c.orbit_0.mean_motion c.orbit_0.eccentricity))

abbrev pub finite_held : Option ResonanceState → Bool
finite_held None = true
finite_held (Some z) = finite_state z

-- not 18: a non-resonant orbit has no state, and the state of a resonant one is what its replay gives; either way the steps that were made
abbrev pub replayed : Constants → Resonant → Option ResonanceState → Result ℕ ℕ
replayed c (No a0) None = Ok 0
replayed c (No a0) (Some z) = Err 0
replayed c (Yes lambda-0 lambda-dot-0 theta_0 r) None = Err 0
replayed c (Yes lambda-0 lambda-dot-0 theta_0 r) (Some z) =
    replay_of (integrator c.orbit_0 lambda-dot-0 r) c.orbit_0.mean_motion lambda-0 z

abbrev pub told : Constants → Option ResonanceState → Result ℕ ℕ → Result Record BodyError
told c s (Ok k) = Ok (record { constants = c; state = s; steps = k })
told c s (Err k) = Err (StateWrong k)

-- in the table's order: 16, 17 where a number is not finite, 18
unfoldable pub examined : Constants → Option ResonanceState → Result Record BodyError
examined c s =
    cond (of_its_class c)
    (cond (finite_constants c && finite_held s)
    (told c s (replayed c c.resonant s))
    (Err NumberNotFinite))
    (Err Wrong)
