-- `floats::atan::rest` meets its contract: its text is the definition's, with each constant by its value and each call by what it gives. Assumes nothing.
use lib.Ieee.{of_bits, round}
use Rattle.floats.specs.Rounded.{dec}
use Rattle.floats.specs.Atan.{rest}
use Rattle.floats.proofs.atan.rest.Goals as goal

pub returns : goal.returns
unfolding rest dec of_bits round
returns c = simp (c.arc_kernel.ensures, c.centre-q.ensures)
