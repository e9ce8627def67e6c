-- `constants::geometry::complement` meets its contract: the calls give what the definition names. Assumes nothing.
use lib.Ieee.{of_bits, round}
use Rattle.floats.specs.Rounded.{dec}
use Rattle.constants.specs.Geometry.{complement}
use Rattle.constants.proofs.geometry.complement.Goals as goal

pub returns : goal.returns
unfolding complement dec of_bits round
returns c = simp (c.square.ensures, c.sqrt.ensures)
