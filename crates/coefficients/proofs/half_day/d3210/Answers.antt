-- `coefficients::half_day::d3210` meets its contract: the calls give what the definition names. Assumes nothing.
use lib.Ieee.{of_bits, round}
use Rattle.floats.specs.Rounded.{dec}
use Rattle.coefficients.specs.HalfDay.{d3210}
use Rattle.coefficients.proofs.half_day.d3210.Goals as goal

pub returns : goal.returns
unfolding d3210 dec of_bits round
returns c = simp (c.square.ensures, c.g310.ensures)
