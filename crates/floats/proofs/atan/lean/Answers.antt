-- `floats::atan::lean` meets its contract: its text is the definition's, with each constant by its value and each call by what it gives. Assumes nothing.
use lib.Ieee.{of_bits, round}
use Rattle.floats.specs.Rounded.{dec}
use Rattle.floats.specs.Atan.{lean}
use Rattle.floats.proofs.atan.lean.Goals as goal

pub returns : goal.returns
unfolding lean dec of_bits round
returns c = simp c.centre.ensures
