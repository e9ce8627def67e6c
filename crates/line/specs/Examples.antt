-- Worked examples: a published line with its eight numbers, and the same line damaged once for each refusal. The statement. Assumes nothing.
use Rattle.std.specs.Prelude.{ℕ, ◌-◌, ◌≡◌, List, [], ◌∷◌, set, take, Ok, Err}
use Rattle.line.specs.Read.{read_of}
use Rattle.line.specs.declared.read.LineError.TheVariants.{Length, LineNumber, CheckDigit, BadColumn, Inclination, Angle}

-- 2 00005  34.2682 348.7242 1859667 331.7664  19.3264 10.82419157413667
abbrev pub published : List ℕ
published =
    0x32 ∷ 0x20 ∷ 0x30 ∷ 0x30 ∷ 0x30 ∷ 0x30 ∷ 0x35 ∷ 0x20 ∷ 0x20 ∷ 0x33 ∷ 0x34 ∷ 0x2E ∷ 0x32 ∷ 0x36 ∷ 0x38 ∷ 0x32
    ∷ 0x20 ∷ 0x33 ∷ 0x34 ∷ 0x38 ∷ 0x2E ∷ 0x37 ∷ 0x32 ∷ 0x34 ∷ 0x32 ∷ 0x20 ∷ 0x31 ∷ 0x38 ∷ 0x35 ∷ 0x39 ∷ 0x36 ∷ 0x36
    ∷ 0x37 ∷ 0x20 ∷ 0x33 ∷ 0x33 ∷ 0x31 ∷ 0x2E ∷ 0x37 ∷ 0x36 ∷ 0x36 ∷ 0x34 ∷ 0x20 ∷ 0x20 ∷ 0x31 ∷ 0x39 ∷ 0x2E ∷ 0x33
    ∷ 0x32 ∷ 0x36 ∷ 0x34 ∷ 0x20 ∷ 0x31 ∷ 0x30 ∷ 0x2E ∷ 0x38 ∷ 0x32 ∷ 0x34 ∷ 0x31 ∷ 0x39 ∷ 0x31 ∷ 0x35 ∷ 0x37 ∷ 0x34
    ∷ 0x31 ∷ 0x33 ∷ 0x36 ∷ 0x36 ∷ 0x37 ∷ []

-- a line with another byte in column k
abbrev pub with : ℕ → ℕ → List ℕ → List ℕ
with k b s = set s (k - 1) b

pub record Examples : Type 0 where
  pub line : read_of published ≡ Ok (record {
    satellite = 5;
    inclination = 342682;
    node = 3487242;
    eccentricity = 1859667;
    perigee = 3317664;
    anomaly = 193264;
    mean_motion = 1082419157;
    revolution = 41366;
  })
  -- the last byte is missing
  pub cut_short : read_of (take 68 published) ≡ Err Length
  -- column 69 is not the check digit
  pub check_digit : read_of (with 69 0x38 published) ≡ Err CheckDigit
  -- a comma in column 12, where the point is: neither counts in the sum
  pub bad_column : read_of (with 12 0x2C published) ≡ Err (BadColumn 12)
  -- a blank behind a digit in the node, column 19
  pub blank_behind_digit : read_of (with 69 0x33 (with 19 0x20 published)) ≡ Err (BadColumn 19)
  -- an inclination of 180.0001 degrees
  pub inclination : read_of (with 69 0x32 (with 16 0x31 (with 15 0x30 (with 14 0x30 (with 13 0x30 (with 11 0x30 (with 10 0x38 (with 9 0x31 published)))))))) ≡ Err Inclination
  -- a node of 360.0000 degrees
  pub angle : read_of (with 69 0x36 (with 25 0x30 (with 24 0x30 (with 23 0x30 (with 22 0x30 (with 20 0x30 (with 19 0x36 published))))))) ≡ Err Angle
  -- 1 in column 1 comes before the check digit
  pub line_number : read_of (with 1 0x31 published) ≡ Err LineNumber
