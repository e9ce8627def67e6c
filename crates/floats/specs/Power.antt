-- The powers, as Rust's `powi` groups them. Definitions only. Assumes nothing.
use Rattle.std.specs.Prelude.{Float}
use Rattle.floats.specs.Rounded.{◌⊗◌}

-- x²
abbrev pub sq : Float → Float
sq x = x ⊗ x

-- x³
abbrev pub cubed : Float → Float
cubed x = x ⊗ sq x

-- x⁴
abbrev pub 4th : Float → Float
4th x = sq x ⊗ sq x
