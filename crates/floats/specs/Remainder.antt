-- Rust's `%` and `rem_euclid`, and what a pattern with no sign bit stands for. Definitions only. Assumes nothing.
use Rattle.std.specs.Prelude.{ℕ, ◌+◌, ◌-◌, ◌*◌, ◌/◌, ◌%◌, ◌^◌, ltb, cond, Float}
use Rattle.std.specs.Float.Ieee.{lt}
use Rattle.floats.specs.Rounded.{◌⊕◌, ◌rem◌, dec, magnitude}

-- x % m, and that plus |m| where it is negative. It may be m itself: that of -1e-20 and 2π is 2π
unfoldable pub rem_euclid : Float → Float → Float
rem_euclid x m = let r = x rem m in cond (lt r (dec 0 0)) (r ⊕ magnitude m) r

-- the digits of a finite pattern with no sign bit, the leading one too
unfoldable pub sig_of : ℕ → ℕ
sig_of p = cond (ltb p (2 ^ 52)) p (2 ^ 52 + p % 2 ^ 52)

-- how many times 2 ^ -1074 it is
unfoldable pub units_of : ℕ → ℕ
unfolding sig_of
units_of p = sig_of p * 2 ^ (p / 2 ^ 52 - 1)
