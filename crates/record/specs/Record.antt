-- The numbers of constants in the order of a store's body. Definitions and a statement. Assumes nothing.
--   place    what
--   0        ae ke j2 j3 j4
--   5        inclination, right ascension, eccentricity, argument of perigee, mean anomaly, mean motion
--   11       right_ascension_dot argument_of_perigee_dot mean_anomaly_dot c1 c4 k0 k1 eccentricity_dot inclination_dot
--   20       a0; or lambda_0 lambda_dot_0 sidereal_time_0, and the coefficients in the enum's order
use Rattle.std.specs.Prelude.{ℕ, ◌≡◌, Bool, false, cond, List, [], ◌∷◌, ◌++◌, eqb, pos, get_or, Float}
use Rattle.std.specs.Float.{nan, fin}
use Rattle.orbit.specs.declared.class.Class.{Class}
use Rattle.orbit.specs.declared.class.Class.TheVariants.{NonResonant, OneDay as one_day, HalfDay as half_day}
use Rattle.orbit.specs.declared.propagator.Resonance.{Resonance}
use Rattle.orbit.specs.declared.propagator.Resonance.TheVariants.{OneDay, HalfDay}
use Rattle.orbit.specs.declared.propagator.Resonant.{Resonant}
use Rattle.orbit.specs.declared.propagator.Resonant.TheVariants.{No, Yes}
use Rattle.orbit.specs.declared.propagator.Constants.{Constants}

-- 0 non-resonant, 1 one-day, 2 half-day
abbrev pub kind_of : Resonant → ℕ
kind_of (No a0) = 0
kind_of (Yes lambda-0 lambda-dot-0 theta_0 (OneDay dr1 dr2 dr3)) = 1
kind_of (Yes lambda-0 lambda-dot-0 theta_0 (HalfDay d2201 d2211 d3210 d3222 d4410 d4422 d5220 d5232 d5421 d5433 k14)) = 2

-- the kind that a class has
abbrev pub class_kind : Class → ℕ
class_kind NonResonant = 0
class_kind one_day = 1
class_kind half_day = 2

-- +0.0, which stands where a kind has no number
abbrev pub none : Float
none = fin false 0 (pos 0)

-- what follows the twenty numbers that every kind has
abbrev pub tail_of : Resonant → List Float
tail_of (No a0) = a0 ∷ none ∷ none ∷ none ∷ none ∷ none ∷ none ∷ none ∷ none ∷ none ∷ none ∷ none ∷ none ∷ none ∷ []
tail_of (Yes lambda-0 lambda-dot-0 theta_0 (OneDay dr1 dr2 dr3)) =
    lambda-0 ∷ lambda-dot-0 ∷ theta_0 ∷ dr1 ∷ dr2 ∷ dr3 ∷ none ∷ none ∷ none ∷ none ∷ none ∷ none ∷ none ∷ none ∷ []
tail_of (Yes lambda-0 lambda-dot-0 theta_0 (HalfDay d2201 d2211 d3210 d3222 d4410 d4422 d5220 d5232 d5421 d5433 k14)) =
    lambda-0 ∷ lambda-dot-0 ∷ theta_0 ∷ d2201 ∷ d2211 ∷ d3210 ∷ d3222 ∷ d4410 ∷ d4422 ∷ d5220 ∷ d5232 ∷ d5421 ∷ d5433 ∷ k14 ∷ []

abbrev pub common_of : Constants → List Float
common_of c =
    c.geopotential.ae ∷ c.geopotential.ke ∷ c.geopotential.j2 ∷ c.geopotential.j3 ∷ c.geopotential.j4
    ∷ c.orbit_0.inclination ∷ c.orbit_0.right_ascension ∷ c.orbit_0.eccentricity
    ∷ c.orbit_0.argument_of_perigee ∷ c.orbit_0.mean_anomaly ∷ c.orbit_0.mean_motion
    ∷ c.right_ascension_dot ∷ c.argument_of_perigee_dot ∷ c.mean_anomaly_dot
    ∷ c.c1 ∷ c.c4 ∷ c.k0 ∷ c.k1 ∷ c.eccentricity_dot ∷ c.inclination_dot ∷ []

-- the numbers of the constants
abbrev pub numbers_of : Constants → List Float
numbers_of c = common_of c ++ tail_of c.resonant

-- ---- and back

-- the number at a place
abbrev pub place : List Float → ℕ → Float
place x i = get_or x i nan

abbrev pub one_day_of : List Float → Resonance
one_day_of x = OneDay (place x 23) (place x 24) (place x 25)

abbrev pub half_day_of : List Float → Resonance
half_day_of x =
    HalfDay (place x 23) (place x 24) (place x 25) (place x 26) (place x 27) (place x 28) (place x 29) (place x 30) (place x 31) (place x 32) (place x 33)

-- 1 is one-day, 2 half-day, and any other kind is non-resonant
unfoldable pub resonant_of : ℕ → List Float → Resonant
resonant_of kind x =
    cond (eqb kind 1) (Yes (place x 20) (place x 21) (place x 22) (one_day_of x))
    (cond (eqb kind 2) (Yes (place x 20) (place x 21) (place x 22) (half_day_of x))
    (No (place x 20)))

unfoldable pub constants_of : ℕ → Bool → List Float → Constants
constants_of kind afspc x =
    record {
      geopotential = record { ae = place x 0; ke = place x 1; j2 = place x 2; j3 = place x 3; j4 = place x 4 };
      orbit_0 = record {
        inclination = place x 5;
        right_ascension = place x 6;
        eccentricity = place x 7;
        argument_of_perigee = place x 8;
        mean_anomaly = place x 9;
        mean_motion = place x 10;
      };
      right_ascension_dot = place x 11;
      argument_of_perigee_dot = place x 12;
      mean_anomaly_dot = place x 13;
      c1 = place x 14;
      c4 = place x 15;
      k0 = place x 16;
      k1 = place x 17;
      eccentricity_dot = place x 18;
      inclination_dot = place x 19;
      afspc_compatibility_mode = afspc;
      resonant = resonant_of kind x;
    }

-- the constants come back from their kind, flag and numbers
abbrev pub Back : Type 0
Back = (c : Constants) → constants_of (kind_of c.resonant) c.afspc_compatibility_mode (numbers_of c) ≡ c
