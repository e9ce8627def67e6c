-- The fields of line two. Definitions only. Assumes nothing.
--
-- columns  what                                          point
-- 1        the digit 2
-- 3-7      satellite
-- 9-16     inclination, degrees                          12
-- 18-25    node, degrees                                 21
-- 27-33    eccentricity, its seven digits behind a point
-- 35-42    perigee, degrees                              38
-- 44-51    anomaly, degrees                              47
-- 53-63    mean motion, revolutions a day                55
-- 64-68    revolution
-- 69       the check digit
--
-- Columns count from 1; what stands between them is blank. The digits of a field without a point end where a point would follow.
use Rattle.std.specs.Prelude.{ℕ, ◌-◌, List, get_or, refl}
use Rattle.line.specs.declared.fields.Field.{Field}

-- the byte in column k
abbrev pub column : ℕ → List ℕ → ℕ
column k s = get_or s (k - 1) 0

abbrev pub satellite : Field
satellite = record { first = 3; point = 8; last = 7; shape = refl }

abbrev pub inclination : Field
inclination = record { first = 9; point = 12; last = 16; shape = refl }

abbrev pub node : Field
node = record { first = 18; point = 21; last = 25; shape = refl }

abbrev pub eccentricity : Field
eccentricity = record { first = 27; point = 34; last = 33; shape = refl }

abbrev pub perigee : Field
perigee = record { first = 35; point = 38; last = 42; shape = refl }

abbrev pub anomaly : Field
anomaly = record { first = 44; point = 47; last = 51; shape = refl }

abbrev pub mean_motion : Field
mean_motion = record { first = 53; point = 55; last = 63; shape = refl }

abbrev pub revolution : Field
revolution = record { first = 64; point = 69; last = 68; shape = refl }
