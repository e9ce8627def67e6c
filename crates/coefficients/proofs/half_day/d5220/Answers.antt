-- `coefficients::half_day::d5220` meets its contract: the calls give what the definition names. Assumes nothing.
use lib.Ieee.{of_bits, round}
use Rattle.floats.specs.Rounded.{dec}
use Rattle.coefficients.specs.HalfDay.{d5220}
use Rattle.coefficients.proofs.half_day.d5220.Goals as goal

pub returns : goal.returns
unfolding d5220 dec of_bits round
returns c = simp (c.square.ensures, c.square-2.ensures, c.square-3.ensures, c.g520.ensures)
