-- `floats::atan::pointed` meets its contract: its text is the definition's, with each constant by its value and each call by what it gives. Assumes nothing.
use lib.Ieee.{of_bits, round}
use Rattle.floats.specs.Rounded.{dec}
use Rattle.floats.specs.Atan.{pointed}
use Rattle.floats.proofs.atan.pointed.Goals as goal

pub returns : goal.returns
unfolding pointed dec of_bits round
returns c = simp (c.rest.ensures, c.lean.ensures, c.in_order-low.ensures.0, c.in_order-low.ensures.1, c.sign.ensures, c.sign-sx.ensures, c.sign-sy.ensures)
