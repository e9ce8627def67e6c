-- `coefficients::half_day::f220` meets its contract: the calls give what the definition names. Assumes nothing.
use lib.Ieee.{of_bits, round}
use Rattle.floats.specs.Rounded.{dec}
use Rattle.coefficients.specs.HalfDay.{f220}
use Rattle.coefficients.proofs.half_day.f220.Goals as goal

pub returns : goal.returns
unfolding f220 dec of_bits round
returns c = simp c.square.ensures
