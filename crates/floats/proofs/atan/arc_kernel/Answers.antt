-- `floats::atan::arc_kernel` meets its contract: its text is the definition's, with each constant by its value and each call by what it gives. Assumes nothing.
use lib.Ieee.{of_bits, round}
use Rattle.floats.specs.Rounded.{dec}
use Rattle.floats.specs.Atan.{arc_kernel}
use Rattle.floats.proofs.atan.arc_kernel.Goals as goal

pub returns : goal.returns
unfolding arc_kernel dec of_bits round
returns c = simp c.arc_sum.ensures
