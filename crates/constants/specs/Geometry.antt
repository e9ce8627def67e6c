-- Solar and lunar geometry, from the right ascension of an orbit and the epoch. Definitions only. Assumes nothing.
use Rattle.std.specs.Prelude.{ℕ, Bool, cond, ◌&&◌, Float, Option, Some, None, Result, Ok, Err}
use Rattle.std.specs.Option.{option_map, option_and_then}
use Rattle.std.specs.Float.Ieee.Scale.{finite}
use Rattle.floats.specs.Rounded.{◌⊕◌, ◌⊖◌, ◌⊗◌, ◌⊘◌, ◌rem◌, ⊝◌, dec}
use Rattle.floats.specs.Power.{sq}
use Rattle.floats.specs.Root.{sqrt_of}
use Rattle.floats.specs.Trig.{sin_cos_of}
use Rattle.floats.specs.Atan.{arc_of}
use Rattle.floats.specs.declared.trig.SinCos.{SinCos}
use Rattle.orbit.specs.Model.{tau}
use Rattle.constants.specs.declared.geometry.ThirdBody.{ThirdBody}
use Rattle.constants.specs.declared.geometry.Bodies.{Bodies}
use Rattle.constants.specs.declared.geometry.Plane.{Plane}
use Rattle.constants.specs.Error.{number as error_number}
use Rattle.constants.specs.declared.error.BuildError.{BuildError}
use Rattle.constants.specs.declared.error.BuildError.TheVariants.{NumberNotFinite, AngleOutside, NotFinite}

-- document 01's number of an answer: 0 where there is a geometry
abbrev pub number : Result Bodies BuildError → ℕ
number (Ok b) = 0
number (Err e) = error_number e

-- ---- angles of the epoch

-- d₁₉₀₀, in days
unfoldable pub days : Float → Float
days epoch = (epoch ⊕ dec 100 0) ⊗ dec 36525 2

-- Mₛ₀
unfoldable pub solar_mean_anomaly : Float → Float
solar_mean_anomaly d = (dec 62565837 7 ⊕ dec 17201977 9 ⊗ d) rem tau

-- Mₗ₀
unfoldable pub lunar_mean_anomaly : Float → Float
lunar_mean_anomaly d = (⊝ dec 11151842 7 ⊕ dec 228027132 9 ⊗ d) rem tau

-- Ωₗₑ
unfoldable pub lunar_epsilon : Float → Float
lunar_epsilon d = (dec 45236020 7 ⊖ dec 92422029 11 ⊗ d) rem tau

-- ---- how the Moon's orbit lies, from the sine and cosine of Ωₗₑ

-- cos Iₗ
unfoldable pub inclination_cosine : Float → Float
inclination_cosine x = dec 91375164 8 ⊖ dec 3568096 8 ⊗ x

-- the square root of 1 - x²
unfoldable pub complement : Float → Option Float
complement x = sqrt_of (dec 1 0 ⊖ sq x)

-- sin Ωₗ
unfoldable pub node_sine : Float → Float → Float
node_sine epsilon-sine inclination-sine = dec 89683511 9 ⊗ epsilon-sine ⊘ inclination-sine

-- with cos Iₗ, sin Iₗ, sin Ωₗ and cos Ωₗ
abbrev pub plane_by : Float → Float → Float → Float → Plane
plane_by cI sI sR cR =
    record {
      inclination_sine = sI;
      inclination_cosine = cI;
      right_ascension_sine = sR;
      right_ascension_cosine = cR;
    }

-- with cos Iₗ and sin Iₗ: sin Ωₗ, and cos Ωₗ by its root, where there is one
unfoldable pub plane_of : SinCos → Float → Float → Option Plane
plane_of e cI sI = let sR = node_sine e.sin sI in option_map (plane_by cI sI sR) (complement sR)

-- cos Iₗ, and sin Iₗ by its root, where there is one
unfoldable pub tilt_of : SinCos → Option Plane
tilt_of e = let cI = inclination_cosine e.cos in option_and_then (plane_of e cI) (complement cI)

-- ωₗ
unfoldable pub perigee : Float → Float → SinCos → Plane → Float
perigee d epsilon e p =
    dec 58351514 7
    ⊕ dec 1944368 9 ⊗ d
    ⊕ arc_of
    (dec 39785416 8 ⊗ e.sin ⊘ p.inclination_sine)
    (p.right_ascension_cosine ⊗ e.cos ⊕ dec 91744867 8 ⊗ p.right_ascension_sine ⊗ e.sin)
    ⊖ epsilon

-- ---- the two bodies

-- the Sun, from the sine and cosine of Ω₀
unfoldable pub sun : Float → SinCos → ThirdBody
sun d node =
    record {
      inclination_sine = dec 39785416 8;
      inclination_cosine = dec 91744867 8;
      delta_right_ascension_sine = node.sin;
      delta_right_ascension_cosine = node.cos;
      argument_of_perigee_sine = ⊝ dec 98088458 8;
      argument_of_perigee_cosine = dec 1945905 7;
      mean_anomaly_0 = solar_mean_anomaly d;
    }

-- the Moon, from the sines and cosines of Ω₀ and ωₗ and how its orbit lies
unfoldable pub moon : Float → SinCos → Plane → SinCos → ThirdBody
moon d node p w =
    record {
      inclination_sine = p.inclination_sine;
      inclination_cosine = p.inclination_cosine;
      delta_right_ascension_sine = node.sin ⊗ p.right_ascension_cosine ⊖ node.cos ⊗ p.right_ascension_sine;
      delta_right_ascension_cosine = p.right_ascension_cosine ⊗ node.cos ⊕ p.right_ascension_sine ⊗ node.sin;
      argument_of_perigee_sine = w.sin;
      argument_of_perigee_cosine = w.cos;
      mean_anomaly_0 = lunar_mean_anomaly d;
    }

-- every number of a body is finite
abbrev pub finite_body : ThirdBody → Bool
finite_body b =
    finite b.inclination_sine
    && finite b.inclination_cosine
    && finite b.delta_right_ascension_sine
    && finite b.delta_right_ascension_cosine
    && finite b.argument_of_perigee_sine
    && finite b.argument_of_perigee_cosine
    && finite b.mean_anomaly_0

-- 13 where one of the fourteen numbers is not finite
abbrev pub bodies_by : ThirdBody → ThirdBody → Result Bodies BuildError
bodies_by s m = cond (finite_body s && finite_body m) (Ok (record { solar = s; lunar = m })) (Err NotFinite)

-- ---- the answer: 3, 9, 13 in that order

-- 9 where ωₗ is refused
abbrev pub bodies_of : Float → SinCos → Plane → Option SinCos → Result Bodies BuildError
bodies_of d node p (Some w) = bodies_by (sun d node) (moon d node p w)
bodies_of d node p None = Err AngleOutside

-- 13 where a root is refused: the sine of ωₗ is then not taken
abbrev pub placed_by : Float → Float → SinCos → SinCos → Option Plane → Result Bodies BuildError
placed_by d epsilon node e (Some p) = bodies_of d node p (sin_cos_of (perigee d epsilon e p))
placed_by d epsilon node e None = Err NotFinite

-- 9 where Ω₀ or Ωₗₑ is refused
abbrev pub angled_by : Float → Float → Option SinCos → Option SinCos → Result Bodies BuildError
angled_by d epsilon (Some node) (Some e) = placed_by d epsilon node e (tilt_of e)
angled_by d epsilon (Some node) None = Err AngleOutside
angled_by d epsilon None e = Err AngleOutside

-- with the sines and cosines of Ω₀ and Ωₗₑ
abbrev pub angled : Float → Float → Result Bodies BuildError
angled Ω d = angled_by d (lunar_epsilon d) (sin_cos_of Ω) (sin_cos_of (lunar_epsilon d))

-- 3 where the right ascension or the epoch is not finite
abbrev pub geometry_of : Float → Float → Result Bodies BuildError
geometry_of Ω epoch = cond (finite Ω && finite epoch) (angled Ω (days epoch)) (Err NumberNotFinite)
