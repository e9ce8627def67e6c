-- The class of an orbit of mean motion n and eccentricity e. Definitions only. Assumes nothing.
use Rattle.std.specs.Prelude.{Bool, cond, ◌&&◌, Float}
use Rattle.std.specs.Float.Ieee.{lt, le}
use Rattle.floats.specs.Rounded.{dec}
use Rattle.orbit.specs.declared.class.Class.{Class}
use Rattle.orbit.specs.declared.class.Class.TheVariants.{NonResonant, OneDay, HalfDay}

-- 0.0034906585 < n < 0.0052359877
unfoldable pub one_day : Float → Bool
one_day n = lt n (dec 52359877 10) && lt (dec 34906585 10) n

-- 8.26e-3 <= n <= 9.24e-3 and e >= 0.5
unfoldable pub half_day : Float → Float → Bool
half_day n e = le (dec 826 5) n && le n (dec 924 5) && le (dec 5 1) e

-- one-day exactly if the first holds, half-day exactly if not one-day and the second holds, otherwise non-resonant
abbrev pub class_of : Float → Float → Class
class_of n e = cond (one_day n) OneDay (cond (half_day n e) HalfDay NonResonant)
