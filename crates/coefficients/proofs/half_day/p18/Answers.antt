-- `coefficients::half_day::p18` meets its contract: the calls give what the definition names. Assumes nothing.
use lib.Ieee.{of_bits, round}
use Rattle.floats.specs.Rounded.{dec}
use Rattle.coefficients.specs.HalfDay.{p18}
use Rattle.coefficients.proofs.half_day.p18.Goals as goal

pub returns : goal.returns
unfolding p18 dec of_bits round
returns c = simp (c.square.ensures, c.square-2.ensures)
