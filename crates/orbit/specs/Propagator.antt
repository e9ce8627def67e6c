-- That every number of an orbit, of a resonance or of the constants is finite, in the order of their fields. Definitions only. Assumes nothing.
use Rattle.std.specs.Prelude.{Bool, ◌&&◌}
use Rattle.std.specs.Float.Ieee.Scale.{finite}
use Rattle.orbit.specs.Model.{finite_geopotential}
use Rattle.orbit.specs.declared.propagator.Orbit.{Orbit}
use Rattle.orbit.specs.declared.propagator.Resonance.{Resonance}
use Rattle.orbit.specs.declared.propagator.Resonance.TheVariants.{OneDay, HalfDay}
use Rattle.orbit.specs.declared.propagator.Resonant.{Resonant}
use Rattle.orbit.specs.declared.propagator.Resonant.TheVariants.{No, Yes}
use Rattle.orbit.specs.declared.propagator.Constants.{Constants}

-- every element is finite
abbrev pub finite_orbit : Orbit → Bool
finite_orbit o =
    finite o.inclination
    && finite o.right_ascension
    && finite o.eccentricity
    && finite o.argument_of_perigee
    && finite o.mean_anomaly
    && finite o.mean_motion

-- every coefficient is finite
abbrev pub finite_resonance : Resonance → Bool
finite_resonance (OneDay dr1 dr2 dr3) = finite dr1 && finite dr2 && finite dr3
finite_resonance (HalfDay d2201 d2211 d3210 d3222 d4410 d4422 d5220 d5232 d5421 d5433 k14) =
    finite d2201
    && finite d2211
    && finite d3210
    && finite d3222
    && finite d4410
    && finite d4422
    && finite d5220
    && finite d5232
    && finite d5421
    && finite d5433
    && finite k14

-- a0 is finite, or lambda_0, lambda_dot_0, sidereal_time_0 and the coefficients are
abbrev pub finite_resonant : Resonant → Bool
finite_resonant (No a0) = finite a0
finite_resonant (Yes lambda-0 lambda-dot-0 sidereal-time-0 resonance) =
    finite lambda-0 && finite lambda-dot-0 && finite sidereal-time-0 && finite_resonance resonance

-- every number of the constants is finite
abbrev pub finite_constants : Constants → Bool
finite_constants c =
    finite_geopotential c.geopotential
    && finite_orbit c.orbit_0
    && finite c.right_ascension_dot
    && finite c.argument_of_perigee_dot
    && finite c.mean_anomaly_dot
    && finite c.c1
    && finite c.c4
    && finite c.k0
    && finite c.k1
    && finite c.eccentricity_dot
    && finite c.inclination_dot
    && finite_resonant c.resonant
