-- `coefficients::half_day::d4422` meets its contract: the calls give what the definition names. Assumes nothing.
use lib.Ieee.{of_bits, round}
use Rattle.floats.specs.Rounded.{dec}
use Rattle.coefficients.specs.HalfDay.{d4422}
use Rattle.coefficients.proofs.half_day.d4422.Goals as goal

pub returns : goal.returns
unfolding d4422 dec of_bits round
returns c = simp (c.fourth.ensures, c.g422.ensures)
