-- The two models of the Earth, and the sidereal time by its two expressions. Definitions and a statement. Assumes nothing.
use Rattle.std.specs.Prelude.{ℕ, ◌≡◌, Bool, cond, ◌&&◌, Float, Result, Ok, Err}
use Rattle.std.specs.Float.Ieee.Scale.{finite}
use Rattle.floats.specs.Rounded.{◌⊕◌, ◌⊖◌, ◌⊗◌, ◌⊘◌, ⊝◌, dec}
use Rattle.floats.specs.Power.{sq, cubed}
use Rattle.floats.specs.Floor.{floor_of}
use Rattle.floats.specs.Remainder.{rem_euclid}
use Rattle.orbit.specs.declared.model.Geopotential.{Geopotential}
use Rattle.orbit.specs.declared.model.SiderealTime.{SiderealTime}
use Rattle.orbit.specs.declared.model.SiderealTime.TheVariants.{Iau, Afspc}
use Rattle.orbit.specs.declared.model.SiderealError.{SiderealError}
use Rattle.orbit.specs.declared.model.SiderealError.TheVariants.{EpochNotFinite, NotFinite}

-- π, with the digits of Rust's constant
unfoldable pub pi : Float
pi = dec 314159265358979323846264338327950288 35

-- the whole turn, 2π
unfoldable pub tau : Float
tau = dec 6283185307179586 15

-- it is twice π, as the Rust forms it
abbrev pub Turn : Type 0
Turn = tau ≡ dec 2 0 ⊗ pi

-- ---- the models

-- WGS84: ae ke j2 j3 j4
unfoldable pub wgs84_model : Geopotential
wgs84_model =
    record {
      ae = dec 6378137 3;
      ke = dec 7436685316871385 17;
      j2 = dec 108262998905 14;
      j3 = ⊝ dec 253215306 14;
      j4 = ⊝ dec 161098761 14;
    }

-- WGS72
unfoldable pub wgs72_model : Geopotential
wgs72_model =
    record {
      ae = dec 6378135 3;
      ke = dec 7436691613317342 17;
      j2 = dec 1082616 9;
      j3 = ⊝ dec 253881 11;
      j4 = ⊝ dec 165597 11;
    }

-- every number of the model is finite
abbrev pub finite_geopotential : Geopotential → Bool
finite_geopotential g = finite g.ae && finite g.ke && finite g.j2 && finite g.j3 && finite g.j4

-- ---- the sidereal times, of an epoch in years since UTC 1 January 2000 12h00

-- θ₀ by the IAU expression, from centuries
unfoldable pub iau_theta_0 : Float → Float
iau_theta_0 epoch =
    let c2000 = epoch ⊘ dec 100 0 in
    let theta =
    (⊝ dec 62 7 ⊗ cubed c2000
    ⊕ dec 93104 6 ⊗ sq c2000
    ⊕ (dec 876600 0 ⊗ dec 3600 0 ⊕ dec 8640184812866 6) ⊗ c2000
    ⊕ dec 6731054841 5)
    ⊗ (pi ⊘ dec 180 0)
    ⊘ dec 240 0
    in
    rem_euclid theta tau

-- θ₀ by the AFSPC expression, from days
unfoldable pub afspc_theta_0 : Float → Float
afspc_theta_0 epoch =
    let d1970 = (epoch ⊕ dec 30 0) ⊗ dec 36525 2 ⊕ dec 1 0 in
    let whole = floor_of (d1970 ⊕ dec 10 9) in
    let theta =
    dec 17321343856509374 16
    ⊕ dec 172027916940703639 19 ⊗ whole
    ⊕ (dec 172027916940703639 19 ⊕ tau) ⊗ (d1970 ⊖ whole)
    ⊕ sq d1970 ⊗ dec 507551419432269442 32
    in
    rem_euclid theta tau

-- θ₀ by the expression named
abbrev pub theta_0 : SiderealTime → Float → Float
theta_0 Iau epoch = iau_theta_0 epoch
theta_0 Afspc epoch = afspc_theta_0 epoch

-- a sidereal time called alone: 3 where the epoch is not finite, 13 where the number built is not finite
abbrev pub sidereal_by : Float → Float → Result Float SiderealError
sidereal_by epoch theta = cond (finite epoch) (cond (finite theta) (Ok theta) (Err NotFinite)) (Err EpochNotFinite)

-- with the expression named
abbrev pub sidereal_of : SiderealTime → Float → Result Float SiderealError
sidereal_of which epoch = sidereal_by epoch (theta_0 which epoch)

-- document 01's number of an answer: 0 where there is a sidereal time
abbrev pub number : Result Float SiderealError → ℕ
number (Ok theta) = 0
number (Err EpochNotFinite) = 3
number (Err NotFinite) = 13
