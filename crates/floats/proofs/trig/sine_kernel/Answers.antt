-- `floats::trig::sine_kernel` meets its contract: the calls give what the definition names. Assumes nothing.
use lib.Ieee.{of_bits, round}
use Rattle.floats.specs.Rounded.{dec}
use Rattle.floats.specs.Trig.{sine_kernel}
use Rattle.floats.proofs.trig.sine_kernel.Goals as goal

pub returns : goal.returns
unfolding sine_kernel dec of_bits round
returns c = simp c.sine_sum.ensures
