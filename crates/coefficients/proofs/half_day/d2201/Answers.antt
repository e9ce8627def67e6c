-- `coefficients::half_day::d2201` meets its contract: the calls give what the definition names. Assumes nothing.
use lib.Ieee.{of_bits, round}
use Rattle.floats.specs.Rounded.{dec}
use Rattle.coefficients.specs.HalfDay.{d2201}
use Rattle.coefficients.proofs.half_day.d2201.Goals as goal

pub returns : goal.returns
unfolding d2201 dec of_bits round
returns c = simp c.f220.ensures
