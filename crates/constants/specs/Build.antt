-- The build of an orbit's constants. Definitions only. Assumes nothing.
use Rattle.std.specs.Prelude.{ℕ, Bool, cond, ◌&&◌, Float, Option, Some, None, Result, Ok, Err}
use Rattle.std.specs.Option.{option_map}
use Rattle.floats.specs.Rounded.{◌⊕◌}
use Rattle.floats.specs.Trig.{sine_of}
use Rattle.orbit.specs.Model.{theta_0, finite_geopotential}
use Rattle.orbit.specs.Class.{class_of}
use Rattle.orbit.specs.Propagator.{finite_orbit, finite_constants}
use Rattle.orbit.specs.declared.class.Class.{Class}
use Rattle.orbit.specs.declared.class.Class.TheVariants.{NonResonant, OneDay, HalfDay}
use Rattle.orbit.specs.declared.model.Geopotential.{Geopotential}
use Rattle.orbit.specs.declared.model.SiderealTime.{SiderealTime}
use Rattle.orbit.specs.declared.propagator.Constants.{Constants}
use Rattle.orbit.specs.declared.propagator.Orbit.{Orbit}
use Rattle.orbit.specs.declared.propagator.Resonant.{Resonant}
use Rattle.orbit.specs.declared.propagator.Resonant.TheVariants.{No, Yes}
use Rattle.coefficients.specs.OneDay as One
use Rattle.coefficients.specs.HalfDay as Half
use Rattle.constants.specs.Given.{finite_given, finite_dots, sum}
use Rattle.constants.specs.Longitude.{one_day_lambda_0, one_day_lambda_dot_0, half_day_lambda_0, half_day_lambda_dot_0}
use Rattle.constants.specs.declared.given.Given.{Given}
use Rattle.constants.specs.declared.given.Dots.{Dots}
use Rattle.constants.specs.Error.{number as error_number}
use Rattle.constants.specs.declared.error.BuildError.{BuildError}
use Rattle.constants.specs.declared.error.BuildError.TheVariants.{NumberNotFinite, AngleOutside, NotFinite}

-- document 01's number of an answer: 0 where there are constants
abbrev pub number : Result Constants BuildError → ℕ
number (Ok c) = 0
number (Err e) = error_number e

-- every number given is finite, used or not
unfoldable pub all_finite : Geopotential → Orbit → Given → Dots → Dots → Bool
all_finite geo o g s m = finite_geopotential geo && finite_orbit o && finite_given g && finite_dots s && finite_dots m

-- ---- the kind that the constants carry

-- a one-day orbit, from the rates together, the sidereal time and the sine of the inclination
abbrev pub one_day_resonant : Orbit → Given → Dots → Float → Float → Resonant
one_day_resonant o g d theta s =
    Yes (one_day_lambda_0 o theta) (one_day_lambda_dot_0 o g d) theta (One.coefficients o g.p1 g.a0 s)

-- a half-day orbit
abbrev pub half_day_resonant : Orbit → Given → Dots → Float → Float → Resonant
half_day_resonant o g d theta s =
    Yes (half_day_lambda_0 o theta) (half_day_lambda_dot_0 o g d) theta (Half.coefficients o g.p1 g.a0 g.k14 s)

-- a non-resonant orbit keeps a0, and takes neither a sine nor a sidereal time; a resonant one has no kind, by which 9 is given, where the sine of its
-- inclination is refused
abbrev pub kind_at : SiderealTime → Orbit → Given → Dots → Class → Option Resonant
kind_at which o g d NonResonant = Some (No g.a0)
kind_at which o g d OneDay = option_map (one_day_resonant o g d (theta_0 which g.epoch)) (sine_of o.inclination)
kind_at which o g d HalfDay = option_map (half_day_resonant o g d (theta_0 which g.epoch)) (sine_of o.inclination)

-- by the class of the orbit: n and e are those of orbit_0
unfoldable pub kind_of : SiderealTime → Orbit → Given → Dots → Option Resonant
kind_of which o g d = kind_at which o g d (class_of o.mean_motion o.eccentricity)

-- ---- the answer: 3, 9, 13 in that order

-- the constants: the three rates with those of the Sun and of the Moon together, and what is given
unfoldable pub constants_of : Geopotential → Orbit → Given → Dots → Bool → Resonant → Constants
constants_of geo o g d flag r =
    record {
      geopotential = geo;
      orbit_0 = o;
      right_ascension_dot = g.p14 ⊕ d.right_ascension;
      argument_of_perigee_dot = g.k14 ⊕ d.argument_of_perigee;
      mean_anomaly_dot = g.p15 ⊕ d.mean_anomaly;
      c1 = g.c1;
      c4 = g.c4;
      k0 = g.k0;
      k1 = g.k1;
      eccentricity_dot = d.eccentricity;
      inclination_dot = d.inclination;
      afspc_compatibility_mode = flag;
      resonant = r;
    }

-- 13 where a number of the constants is not finite: those given are finite by then, so it is one that was built
unfoldable pub checked : Constants → Result Constants BuildError
checked c = cond (finite_constants c) (Ok c) (Err NotFinite)

-- 9 where the kind needs a sine that is refused: no constants
abbrev pub built_by : Geopotential → Orbit → Given → Dots → Bool → Option Resonant → Result Constants BuildError
built_by geo o g d flag (Some r) = checked (constants_of geo o g d flag r)
built_by geo o g d flag None = Err AngleOutside

-- 3 where a number given is not finite
unfoldable pub built_of : Geopotential → SiderealTime → Orbit → Given → Dots → Dots → Bool → Result Constants BuildError
built_of geo which o g s m flag =
    cond (all_finite geo o g s m) (built_by geo o g (sum s m) flag (kind_of which o g (sum s m))) (Err NumberNotFinite)
