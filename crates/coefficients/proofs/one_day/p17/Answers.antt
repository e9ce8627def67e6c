-- `coefficients::one_day::p17` meets its contract: the calls give what the definition names. Assumes nothing.
use lib.Ieee.{of_bits, round}
use Rattle.floats.specs.Rounded.{dec}
use Rattle.coefficients.specs.OneDay.{p17}
use Rattle.coefficients.proofs.one_day.p17.Goals as goal

pub returns : goal.returns
unfolding p17 dec of_bits round
returns c = simp c.square.ensures
