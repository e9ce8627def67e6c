-- What reading line two gives. Definitions only. Assumes nothing.
-- `slice_range s a b` are the bytes of s behind column a, up to column b.
use Rattle.std.specs.Prelude.{ℕ, suc, ◌+◌, ◌*◌, ◌-◌, ◌%◌, Bool, cond, ◌&&◌, ◌||◌, List, [], ◌∷◌, length, take, slice_range, eqb, leb, ltb, sum_by, Option, Some, None, Result, Ok, Err}
use Rattle.std.specs.Option.{option_or}
use Rattle.line.specs.Fields as F
use Rattle.line.specs.Fields.{column}
use Rattle.line.specs.declared.fields.Field.{Field}
use Rattle.line.specs.declared.fields.Numbers.{Numbers}
use Rattle.line.specs.declared.read.LineError.{LineError}
use Rattle.line.specs.declared.read.LineError.TheVariants.{Length, LineNumber, CheckDigit, BadColumn, Inclination, Angle}

-- ---- bytes

abbrev pub blank : ℕ
blank = 0x20

abbrev pub minus : ℕ
minus = 0x2D

abbrev pub dot : ℕ
dot = 0x2E

abbrev pub nought : ℕ
nought = 0x30

abbrev pub nine : ℕ
nine = 0x39

-- a byte of low to high
abbrev pub among : ℕ → ℕ → ℕ → Bool
among low high b = leb low b && leb b high

-- what a byte counts in a number: a digit itself, a blank 0
unfoldable pub digit_of : ℕ → ℕ
digit_of b = cond (among nought nine b) (b - nought) 0

-- ---- the check digit

-- what a byte adds to the sum: a digit itself, a minus sign 1, all else nothing
unfoldable pub weight_of : ℕ → ℕ
weight_of b = cond (eqb b minus) 1 (digit_of b)

-- the byte that column 69 has to be: the sum of columns 1 to 68, modulo 10
unfoldable pub check_digit : List ℕ → ℕ
check_digit s = nought + sum_by weight_of (take 68 s) % 10

-- ---- the first bad column, where there is one

-- of bytes behind column k that are all to be from low to high
unfoldable pub first_not : ℕ → ℕ → ℕ → List ℕ → Option ℕ
first_not low high k [] = None
first_not low high k (b ∷ bs) = cond (among low high b) (first_not low high (suc k) bs) (Some (suc k))

-- of bytes behind column k that are to be blanks and then digits
unfoldable pub not_padded : ℕ → List ℕ → Option ℕ
not_padded k [] = None
not_padded k (b ∷ bs) = cond (eqb b blank) (not_padded (suc k) bs) (first_not nought nine k (b ∷ bs))

-- where a field has a point: that stands there, and digits behind it
unfoldable pub bad_fraction : Field → List ℕ → Option ℕ
bad_fraction f s =
    cond (leb f.point f.last)
    (cond (eqb (column f.point s) dot) (first_not nought nine f.point (slice_range s f.point f.last)) (Some f.point))
    None

-- of a field, and of the blanks between it and the column `before`, where the last one ended
unfoldable pub bad_field : ℕ → Field → List ℕ → Option ℕ
bad_field before f s =
    option_or (first_not blank blank before (slice_range s before (f.first - 1)))
    (option_or (not_padded (f.first - 1) (slice_range s (f.first - 1) (f.point - 1)))
    (bad_fraction f s))

-- the fields behind column `before`, in their order
unfoldable pub bad_from : ℕ → List Field → List ℕ → Option ℕ
bad_from before [] s = None
bad_from before (f ∷ fs) s = option_or (bad_field before f s) (bad_from f.last fs s)

-- the columns 2 to 68
unfoldable pub first_bad : List ℕ → Option ℕ
first_bad s =
    bad_from 1
    (F.satellite ∷ F.inclination ∷ F.node ∷ F.eccentricity ∷ F.perigee ∷ F.anomaly ∷ F.mean_motion ∷ F.revolution ∷ []) s

-- ---- the numbers

-- n with the digits of some bytes put after it
unfoldable pub value_of : ℕ → List ℕ → ℕ
value_of n [] = n
value_of n (b ∷ bs) = value_of (10 * n + digit_of b) bs

-- the digits before the point, and those behind it
unfoldable pub number_of : Field → List ℕ → ℕ
number_of f s = value_of (value_of 0 (slice_range s (f.first - 1) (f.point - 1))) (slice_range s f.point f.last)

unfoldable pub numbers_of : List ℕ → Numbers
numbers_of s =
    record {
      satellite = number_of F.satellite s;
      inclination = number_of F.inclination s;
      node = number_of F.node s;
      eccentricity = number_of F.eccentricity s;
      perigee = number_of F.perigee s;
      anomaly = number_of F.anomaly s;
      mean_motion = number_of F.mean_motion s;
      revolution = number_of F.revolution s;
    }

-- ---- the answer

-- node, perigee or anomaly is 360 degrees or more
unfoldable pub turned : Numbers → Bool
turned n = leb 3600000 n.node || (leb 3600000 n.perigee || leb 3600000 n.anomaly)

-- numbers in their ranges: the inclination at most 180 degrees, then the other angles
unfoldable pub ranged : Numbers → Result Numbers LineError
ranged n = cond (ltb 1800000 n.inclination) (Err Inclination) (cond (turned n) (Err Angle) (Ok n))

-- the numbers of a line of this first bad column, if it has one
abbrev pub numbered : Option ℕ → List ℕ → Result Numbers LineError
numbered (Some k) s = Err (BadColumn k)
numbered None s = ranged (numbers_of s)

-- length, line number, check digit, first bad column, ranges
unfoldable pub read_of : List ℕ → Result Numbers LineError
read_of s =
    cond (eqb (length s) 69)
    (cond (eqb (column 1 s) 0x32)
    (cond (eqb (column 69 s) (check_digit s))
    (numbered (first_bad s) s)
    (Err CheckDigit))
    (Err LineNumber))
    (Err Length)

-- the order of the faults: length, line number, check digit, bad column, inclination, another angle; 0 of a line that is read
abbrev pub order : Result Numbers LineError → ℕ
order (Ok n) = 0
order (Err Length) = 1
order (Err LineNumber) = 2
order (Err CheckDigit) = 3
order (Err (BadColumn k)) = 4
order (Err Inclination) = 5
order (Err Angle) = 6
