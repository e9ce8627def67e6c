-- `elements::elements::one_nan` meets its contract: only a NaN is one. Assumes nothing.
use lib.Ieee.{Float, of_bits, binary64, is_nan, nan, inf, fin}
use mathlib.Core.Path.{◌≡◌, refl, sym}
use mathlib.Core.Bool.{true, false≢true}
use Rattle.elements.proofs.elements.one_nan.Goals as goal

the-nan : (x : Float) → true ≡ is_nan x → of_bits binary64 0x7ff8_0000_0000_0000 ≡ x
unfolding of_bits is_nan
the-nan nan e = refl
the-nan (inf s) e = absurd (false≢true (sym e))
the-nan (fin s m x) e = absurd (false≢true (sym e))

pub returns-then-is_nan : goal.returns-then-is_nan
returns-then-is_nan c = the-nan c.args.x (c.if-is_nan.ensures.value)
