-- `coefficients::one_day::dr2` meets its contract: the calls give what the definition names. Assumes nothing.
use lib.Ieee.{of_bits, round}
use Rattle.floats.specs.Rounded.{dec}
use Rattle.coefficients.specs.OneDay.{dr2}
use Rattle.coefficients.proofs.one_day.dr2.Goals as goal

pub returns : goal.returns
unfolding dr2 dec of_bits round
returns c = simp (c.square.ensures, c.square-2.ensures, c.square-3.ensures)
