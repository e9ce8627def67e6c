-- The greatest whole number that is not above x. Definitions and a statement. Assumes nothing.
use Rattle.std.specs.Prelude.{zero, suc, ◌+◌, ◌-◌, ◌*◌, ◌/◌, ◌%◌, Bool, true, false, ◌≡◌, T, eqb, Float}
use Rattle.std.specs.Float.{nan, inf, fin, binary64}
use Rattle.std.specs.Float.Ieee.{up, down, round, le, fits}
use Rattle.std.specs.Float.Ieee.Scale.{finite}

-- m * 2 ^ e is the fraction m * up e / down e: cut down where it is not negative, and up where it is. A whole number that a float holds is not changed by
-- `round`. A zero keeps its sign, and a NaN or an infinity stays what it is.
unfoldable pub floor_of : Float → Float
floor_of nan = nan
floor_of (inf s) = inf s
floor_of (fin s zero e) = fin s zero e
floor_of (fin false (suc m) e) = round binary64 false (suc m * up e / down e) 1
floor_of (fin true (suc m) e) = round binary64 true ((suc m * up e + (down e - 1)) / down e) 1

-- a whole number
abbrev pub whole : Float → Bool
whole nan = false
whole (inf s) = false
whole (fin s m e) = eqb (m * up e % down e) 0

-- the floor of a finite x is a whole number, is not above x, and no other whole number that is not above x is above it
pub record FloorGreatest : Type 0 where
  pub is_whole : (x : Float) → T (fits binary64 x) → T (finite x) → T (whole (floor_of x))
  pub not_above : (x : Float) → T (fits binary64 x) → T (finite x) → le (floor_of x) x ≡ true
  pub greatest : (x y : Float) → T (fits binary64 x) → T (finite x) → T (whole y) → le y x ≡ true → le y (floor_of x) ≡ true
