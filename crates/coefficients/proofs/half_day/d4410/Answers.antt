-- `coefficients::half_day::d4410` meets its contract: the calls give what the definition names. Assumes nothing.
use lib.Ieee.{of_bits, round}
use Rattle.floats.specs.Rounded.{dec}
use Rattle.coefficients.specs.HalfDay.{d4410}
use Rattle.coefficients.proofs.half_day.d4410.Goals as goal

pub returns : goal.returns
unfolding d4410 dec of_bits round
returns c = simp (c.square.ensures, c.f220.ensures, c.g410.ensures)
