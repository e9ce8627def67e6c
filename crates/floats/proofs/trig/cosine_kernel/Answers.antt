-- `floats::trig::cosine_kernel` meets its contract: the calls give what the definition names. Assumes nothing.
use lib.Ieee.{of_bits, round}
use Rattle.floats.specs.Rounded.{dec}
use Rattle.floats.specs.Trig.{cosine_kernel}
use Rattle.floats.proofs.trig.cosine_kernel.Goals as goal

pub returns : goal.returns
unfolding cosine_kernel dec of_bits round
returns c = simp c.cosine_sum.ensures
