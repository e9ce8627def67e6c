-- `coefficients::one_day::dr3` meets its contract: the calls give what the definition names. Assumes nothing.
use lib.Ieee.{of_bits, round}
use Rattle.floats.specs.Rounded.{dec}
use Rattle.coefficients.specs.OneDay.{dr3}
use Rattle.coefficients.proofs.one_day.dr3.Goals as goal

pub returns : goal.returns
unfolding dr3 dec of_bits round
returns c = simp (c.cube.ensures, c.square.ensures, c.square-2.ensures)
