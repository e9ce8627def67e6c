-- The elements of an orbit at a time from p28 and p29, with refusals 9 to 12, as the Rust groups them. Definitions only. Assumes nothing.
use Rattle.std.specs.Prelude.{ℕ, Bool, cond, ◌&&◌, Option, Some, None, Result, Err, ok_or, option_map, option_and_then, Float}
use Rattle.std.specs.Bool.{then_some}
use Rattle.std.specs.Float.Ieee.{lt, le}
use Rattle.std.specs.Float.Ieee.Scale.{finite}
use Rattle.floats.specs.Rounded.{◌⊕◌, ◌⊖◌, ◌⊗◌, ◌⊘◌, ⊝◌, ◌rem◌, dec, magnitude}
use Rattle.floats.specs.Power.{sq}
use Rattle.floats.specs.Remainder.{rem_euclid}
use Rattle.floats.specs.Atan.{arc_of}
use Rattle.floats.specs.Trig.{sin_cos_of}
use Rattle.floats.specs.Root.{three_halves}
use Rattle.floats.specs.declared.trig.SinCos.{SinCos}
use Rattle.orbit.specs.Model.{pi, tau}
use Rattle.orbit.specs.Propagator.{finite_orbit}
use Rattle.orbit.specs.declared.propagator.Constants.{Constants}
use Rattle.elements.specs.declared.elements.Periodic.{Periodic}
use Rattle.elements.specs.declared.elements.Question.{Question}
use Rattle.elements.specs.declared.elements.Elements.{Elements}
use Rattle.elements.specs.declared.elements.Plane.{Plane}
use Rattle.elements.specs.declared.elements.Shape.{Shape}
use Rattle.elements.specs.declared.elements.ElementsError.{ElementsError}
use Rattle.elements.specs.declared.elements.ElementsError.TheVariants.{AngleRefused, OutOfRangeEccentricity, OutOfRangePerturbedEccentricity, ElementsNotFinite}

-- ---- the numbers given with a time

-- the five numbers of a body are finite
abbrev pub finite_periodic : Periodic → Bool
finite_periodic p =
    finite p.delta_eccentricity && finite p.delta_inclination && finite p.delta_mean_motion && finite p.p4 && finite p.p5

-- every number asked with is finite, the time apart
abbrev pub finite_question : Question → Bool
finite_question q = finite q.p22 && finite q.p23 && finite_periodic q.solar && finite_periodic q.lunar

-- ---- Sun and Moon together

-- δIₛ + δIₗ
abbrev pub tilt : Question → Float
tilt q = q.solar.delta_inclination ⊕ q.lunar.delta_inclination

-- pₛ₄ + pₗ₄
abbrev pub p4 : Question → Float
p4 q = q.solar.p4 ⊕ q.lunar.p4

-- pₛ₅ + pₗ₅
abbrev pub p5 : Question → Float
p5 q = q.solar.p5 ⊕ q.lunar.p5

-- ---- inclination, node and perigee

-- I = I₀ + İ t + (δIₛ + δIₗ)
unfoldable pub inclination_at : Constants → Question → Float
inclination_at c q = c.orbit_0.inclination ⊕ c.inclination_dot ⊗ q.t ⊕ tilt q

abbrev pub plane_at : Float → Float → Plane
plane_at right-ascension argument-of-perigee = record { right_ascension = right-ascension; argument_of_perigee = argument-of-perigee }

-- from I = 0.2 on: Ω = p₂₂ + (pₛ₅ + pₗ₅) / sin I, ω = p₂₃ + (pₛ₄ + pₗ₄) - cos I ((pₛ₅ + pₗ₅) / sin I)
unfoldable pub high : Question → SinCos → Plane
high q w = plane_at (q.p22 ⊕ p5 q ⊘ w.sin) (q.p23 ⊕ p4 q ⊖ w.cos ⊗ (p5 q ⊘ w.sin))

-- p₃₀, of the sines and cosines of I and of p₂₂
unfoldable pub p30_of : Question → SinCos → SinCos → Float
p30_of q w node =
    arc_of
    (w.sin ⊗ node.sin ⊕ (p5 q ⊗ node.cos ⊕ tilt q ⊗ w.cos ⊗ node.sin))
    (w.sin ⊗ node.cos ⊕ (⊝ p5 q ⊗ node.sin ⊕ tilt q ⊗ w.cos ⊗ node.cos))

-- Ω: p₃₀, moved by a turn where it is more than half a turn from p₂₂ rem 2π
unfoldable pub near_turn : Float → Float → Float
near_turn p30 turn = cond (lt p30 (turn ⊖ pi)) (p30 ⊕ tau) (cond (lt (turn ⊕ pi) p30) (p30 ⊖ tau) p30)

-- the last term of ω has `rem_euclid` in AFSPC mode and % otherwise
unfoldable pub low_node : Bool → Float → Float
low_node afspc p22 = cond afspc (rem_euclid p22 tau) (p22 rem tau)

-- below I = 0.2, by p₃₀; p₂₂'s sine and cosine are taken
abbrev pub low_by : Question → SinCos → SinCos → Float → Float → Plane
low_by q w node right-ascension last =
    plane_at right-ascension
    (q.p23 ⊕ p4 q ⊕ w.cos ⊗ (q.p22 rem tau ⊖ right-ascension) ⊖ tilt q ⊗ last ⊗ w.sin)

unfoldable pub low : Bool → Question → SinCos → Option Plane
low afspc q w =
    option_map (λ node. low_by q w node (near_turn (p30_of q w node) (q.p22 rem tau)) (low_node afspc q.p22)) (sin_cos_of q.p22)

unfoldable pub plane_of : Bool → Question → Float → SinCos → Option Plane
plane_of afspc q inclination w = cond (le (dec 2 1) inclination) (Some (high q w)) (low afspc q w)

-- ---- eccentricity

-- p₃₁ = e₀ + ė t - C₄ t
unfoldable pub p31_of : Constants → Float → Float
p31_of c t = c.orbit_0.eccentricity ⊕ c.eccentricity_dot ⊗ t ⊖ c.c4 ⊗ t

-- 10 is given exactly if this fails: -0.001 <= p₃₁ < 1
unfoldable pub in_range : Float → Bool
in_range p31 = le (⊝ dec 1 3) p31 && lt p31 (dec 1 0)

-- e = p₃₁, but at least 10⁻⁶, plus (δeₛ + δeₗ)
unfoldable pub perturbed : Float → Question → Float
perturbed p31 q =
    cond (lt p31 (dec 1 6)) (dec 1 6) p31
    ⊕ (q.solar.delta_eccentricity ⊕ q.lunar.delta_eccentricity)

-- 11 is given exactly if this fails: 0 <= e <= 1
unfoldable pub in_unit : Float → Bool
in_unit e = le (dec 0 0) e && le e (dec 1 0)

-- ---- size, and the numbers that depend on the inclination alone

-- a = p₂₈ (1 - C₁ t)²
unfoldable pub a_of : Constants → Float → Float → Float
a_of c t p28 = p28 ⊗ sq (dec 1 0 ⊖ c.c1 ⊗ t)

-- a^1.5, of a base that is positive and finite
unfoldable pub power_of : Float → Option Float
power_of a = cond (lt (dec 0 0) a) (three_halves a) None

-- 1 + cos I, or 1.5e-12 where |1 + cos I| is not above that
unfoldable pub divisor : Float → Float
divisor cos = let x = dec 1 0 ⊕ cos in cond (lt (dec 15 13) (magnitude x)) x (dec 15 13)

-- the twelve numbers of an answer; `power` is a^1.5
unfoldable pub elements_at : Constants → Question → Shape → Float → Float → Float → Elements
elements_at c q s p29 a power =
    let ratio = c.geopotential.j3 ⊘ c.geopotential.j2 in
    record {
      orbit = record {
        inclination = s.inclination;
        right_ascension = s.right_ascension;
        eccentricity = s.eccentricity;
        argument_of_perigee = s.argument_of_perigee;
        mean_anomaly =
            p29
            ⊕ (q.solar.delta_mean_motion ⊕ q.lunar.delta_mean_motion)
            ⊕ c.orbit_0.mean_motion ⊗ c.k1 ⊗ sq q.t;
        mean_motion = c.geopotential.ke ⊘ power;
      };
      a = a;
      p32 = ⊝ dec 5 1 ⊗ ratio ⊗ s.sin;
      p33 = dec 1 0 ⊖ sq s.cos;
      p34 = dec 7 0 ⊗ sq s.cos ⊖ dec 1 0;
      p35 = ⊝ dec 25 2 ⊗ ratio ⊗ s.sin ⊗ (dec 3 0 ⊕ dec 5 0 ⊗ s.cos) ⊘ divisor s.cos;
      p36 = dec 3 0 ⊗ sq s.cos ⊖ dec 1 0;
    }

-- ---- the answer

-- every number of the answer (orbit, a, p32 to p36) is finite
abbrev pub finite_elements : Elements → Bool
finite_elements e =
    finite_orbit e.orbit && finite e.a && finite e.p32 && finite e.p33 && finite e.p34 && finite e.p35 && finite e.p36

-- none, by which 12 is given, where the base of a power is not positive and finite, or a number of the answer not finite
abbrev pub if_finite : Elements → Option Elements
if_finite e = then_some (finite_elements e) e

unfoldable pub completed_of : Constants → Question → Shape → Float → Option Float → Option Elements
completed_of c q s p29 p28 =
    option_and_then (λ p28. let a = a_of c q.t p28 in option_and_then (λ power. if_finite (elements_at c q s p29 a power)) (power_of a)) p28

abbrev pub shape_at : Float → SinCos → Plane → Float → Shape
shape_at inclination w plane e =
    record {
      inclination = inclination;
      right_ascension = plane.right_ascension;
      eccentricity = e;
      argument_of_perigee = plane.argument_of_perigee;
      sin = w.sin;
      cos = w.cos;
    }

-- 10: p31 out of range, with p31 and t. 11: the perturbed eccentricity outside 0 to 1, with it and t. 12 comes last
abbrev pub elements_by : Constants → Option Float → Float → Question → Float → SinCos → Plane → Float → Float → Result Elements ElementsError
elements_by c p28 p29 q inclination w plane p31 e =
    cond (in_range p31)
    (cond (in_unit e)
    (ok_or (completed_of c q (shape_at inclination w plane e) p29 p28) ElementsNotFinite)
    (Err (OutOfRangePerturbedEccentricity e q.t)))
    (Err (OutOfRangeEccentricity p31 q.t))

-- 9: the inclination, or p22 where its sine or cosine is taken, is refused
abbrev pub with_plane : Constants → Option Float → Float → Question → Float → SinCos → Option Plane → Result Elements ElementsError
with_plane c p28 p29 q inclination w None = Err AngleRefused
with_plane c p28 p29 q inclination w (Some plane) =
    let p31 = p31_of c q.t in
    elements_by c p28 p29 q inclination w plane p31 (perturbed p31 q)

abbrev pub with_inclination : Constants → Option Float → Float → Question → Float → Option SinCos → Result Elements ElementsError
with_inclination c p28 p29 q inclination None = Err AngleRefused
with_inclination c p28 p29 q inclination (Some w) =
    with_plane c p28 p29 q inclination w (plane_of c.afspc_compatibility_mode q inclination w)

unfoldable pub elements_of : Constants → Option Float → Float → Question → Result Elements ElementsError
elements_of c p28 p29 q = with_inclination c p28 p29 q (inclination_at c q) (sin_cos_of (inclination_at c q))

-- document 01's number of a refusal
abbrev pub number : ElementsError → ℕ
number AngleRefused = 9
number (OutOfRangeEccentricity e t) = 10
number (OutOfRangePerturbedEccentricity e t) = 11
number ElementsNotFinite = 12
