-- `floats::remainder::significand` meets its contract. Assumes nothing.
use mathlib.Core.Path.{sym}
use Rattle.floats.proofs.Units.{sig-low, sig-high}
use Rattle.floats.proofs.remainder.significand.Goals as goal

pub returns-then-p-lt4503599627370496-clause-is : goal.returns-then-p-lt4503599627370496-clause-is
returns-then-p-lt4503599627370496-clause-is c = sym (sig-low c.args.p c.if-p-lt4503599627370496.true)

pub returns-else-p-lt4503599627370496-clause-is : goal.returns-else-p-lt4503599627370496-clause-is
returns-else-p-lt4503599627370496-clause-is c = sym (sig-high c.args.p c.if-p-lt4503599627370496.false)
