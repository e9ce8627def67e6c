-- `constants::geometry::d1900` meets its contract: its text is the definition's, with each constant by its value. Assumes nothing.
use mathlib.Core.Path.{refl}
use lib.Ieee.{of_bits, round}
use Rattle.floats.specs.Rounded.{dec}
use Rattle.constants.specs.Geometry.{days}
use Rattle.constants.proofs.geometry.d1900.Goals as goal

pub returns : goal.returns
unfolding days dec of_bits round
returns c = refl
