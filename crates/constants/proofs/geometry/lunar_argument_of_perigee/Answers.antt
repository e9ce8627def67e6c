-- `constants::geometry::lunar_argument_of_perigee` meets its contract: the calls give what the definition names. Assumes nothing.
use lib.Ieee.{of_bits, round}
use Rattle.floats.specs.Rounded.{dec}
use Rattle.constants.specs.Geometry.{perigee}
use Rattle.constants.proofs.geometry.lunar_argument_of_perigee.Goals as goal

pub returns : goal.returns
unfolding perigee dec of_bits round
returns c = simp c.atan2.ensures
