-- The line that is written of eight numbers, and the answer of a write. Definitions only. Assumes nothing.
use Rattle.std.specs.Prelude.{ℕ, zero, suc, ◌+◌, ◌-◌, ◌/◌, ◌%◌, ◌^◌, Bool, cond, ◌&&◌, List, [], ◌∷◌, ◌++◌, length, take, drop, set, replicate, eqb, leb, ltb, Result, Ok, Err}
use Rattle.line.specs.Fields as F
use Rattle.line.specs.Read.{blank, dot, nought, check_digit}
use Rattle.line.specs.declared.fields.Field.{Field}
use Rattle.line.specs.declared.fields.Numbers.{Numbers}
use Rattle.line_write.specs.declared.Name.{Name}
use Rattle.line_write.specs.declared.Name.TheVariants.{Satellite, Inclination, Node, Eccentricity, Perigee, Anomaly, MeanMotion, Revolution}
use Rattle.line_write.specs.declared.WriteError.{WriteError}
use Rattle.line_write.specs.declared.WriteError.TheVariants.{OutputShort, DoesNotFit}

-- ---- a number in its columns

-- the last digit of x, or a blank where there may be one and x has no digit left
unfoldable pub byte_of : Bool → ℕ → ℕ
byte_of may x = cond (may && eqb x 0) blank (nought + x % 10)

-- the last k digits of x; the first m of them are blank before the first digit
unfoldable pub padded : ℕ → ℕ → ℕ → List ℕ
padded m zero x = []
padded m (suc k) x = padded m k (x / 10) ++ (byte_of (ltb k m) x ∷ [])

-- the point of a field that has one
abbrev pub point_of : Field → List ℕ
point_of f = cond (leb f.point f.last) (dot ∷ []) []

-- x in a field: the digits before the point, the point, the digits behind it
unfoldable pub spelled : Field → ℕ → ℕ → List ℕ
spelled f m x =
    padded m (f.point - f.first) (x / 10 ^ (f.last - f.point))
    ++ (point_of f ++ padded 0 (f.last - f.point) x)

-- padded with zeros
abbrev pub zeros : Field → ℕ → List ℕ
zeros f x = spelled f 0 x

-- padded with blanks, and at least one digit before the point
abbrev pub blanks : Field → ℕ → List ℕ
blanks f x = spelled f (f.point - f.first - 1) x

-- ---- the line

-- columns 1 to 68
unfoldable pub front_of : Numbers → List ℕ
front_of n =
    0x32 ∷ blank ∷ zeros F.satellite n.satellite
    ++ (blank ∷ blanks F.inclination n.inclination
    ++ (blank ∷ blanks F.node n.node
    ++ (blank ∷ zeros F.eccentricity n.eccentricity
    ++ (blank ∷ blanks F.perigee n.perigee
    ++ (blank ∷ blanks F.anomaly n.anomaly
    ++ (blank ∷ blanks F.mean_motion n.mean_motion
    ++ blanks F.revolution n.revolution))))))

-- and the check digit
unfoldable pub line_of : Numbers → List ℕ
line_of n = front_of n ++ (check_digit (front_of n) ∷ [])

-- ---- what fits

-- the greatest number of so many digits
abbrev pub most : Field → ℕ
most f = 10 ^ (f.point - f.first + (f.last - f.point)) - 1

-- the greatest number that a field may have: what its columns hold, 180 degrees, or what is below 360
abbrev pub greatest : Name → ℕ
greatest Satellite = most F.satellite
greatest Inclination = 1800000
greatest Node = 3599999
greatest Eccentricity = most F.eccentricity
greatest Perigee = 3599999
greatest Anomaly = 3599999
greatest MeanMotion = most F.mean_motion
greatest Revolution = most F.revolution

-- a field that fits leaves the answer to those behind it
abbrev pub fits : Name → ℕ → Result (Unit {0}) WriteError → Result (Unit {0}) WriteError
fits name x others = cond (leb x (greatest name)) others (Err (DoesNotFit name))

-- the first field, in the order of the line, that does not fit
unfoldable pub fitted_of : Numbers → Result (Unit {0}) WriteError
fitted_of n =
    fits Satellite n.satellite
    (fits Inclination n.inclination
    (fits Node n.node
    (fits Eccentricity n.eccentricity
    (fits Perigee n.perigee
    (fits Anomaly n.anomaly
    (fits MeanMotion n.mean_motion
    (fits Revolution n.revolution (Ok tt))))))))

-- ---- the answer

-- of a write into a buffer of so many bytes
unfoldable pub written_to : ℕ → Numbers → Result (Unit {0}) WriteError
written_to room n = cond (ltb room 69) (Err OutputShort) (fitted_of n)

-- the buffer after an answer: as it was, or the line and what stood past it
abbrev pub output_of : Result (Unit {0}) WriteError → Numbers → List ℕ → List ℕ
output_of (Err e) n out = out
output_of (Ok done) n out = line_of n ++ drop 69 out

-- the document's number of an answer, 0 where the line is written; a field is refused by its name and has none
abbrev pub number : Result (Unit {0}) WriteError → ℕ
number (Ok _) = 0
number (Err OutputShort) = 19
number (Err (DoesNotFit name)) = 255

-- the place of a field in the line
abbrev pub place : Name → ℕ
place Satellite = 1
place Inclination = 2
place Node = 3
place Eccentricity = 4
place Perigee = 5
place Anomaly = 6
place MeanMotion = 7
place Revolution = 8

-- ---- what the parts of a write do to a line

-- bytes laid over those of a list behind column `at`
unfoldable pub laid : ℕ → List ℕ → List ℕ → List ℕ
laid at bs l = take at l ++ (bs ++ drop (at + length bs) l)

-- the point of a field set in a line, where it has one
abbrev pub point_on : Field → List ℕ → List ℕ
point_on f l = cond (leb f.point f.last) (set l (f.point - 1) dot) l

-- a field written over a line
unfoldable pub field_on : Field → ℕ → ℕ → List ℕ → List ℕ
field_on f m x l =
    laid (f.first - 1) (padded m (f.point - 1 - (f.first - 1)) (x / 10 ^ (f.last - f.point)))
    (point_on f (laid f.point (padded 0 (f.last - f.point) x) l))

-- all fields written over a line of blanks
unfoldable pub fields_on : Numbers → List ℕ
fields_on n =
    field_on F.revolution 4 n.revolution
    (field_on F.mean_motion 1 n.mean_motion
    (field_on F.anomaly 2 n.anomaly
    (field_on F.perigee 2 n.perigee
    (field_on F.eccentricity 0 n.eccentricity
    (field_on F.node 2 n.node
    (field_on F.inclination 2 n.inclination
    (field_on F.satellite 0 n.satellite (0x32 ∷ replicate 68 blank))))))))
