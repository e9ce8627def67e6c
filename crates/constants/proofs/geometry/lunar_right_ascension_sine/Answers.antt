-- `constants::geometry::lunar_right_ascension_sine` meets its contract: its text is the definition's, with each constant by its value. Assumes nothing.
use mathlib.Core.Path.{refl}
use lib.Ieee.{of_bits, round}
use Rattle.floats.specs.Rounded.{dec}
use Rattle.constants.specs.Geometry.{node_sine}
use Rattle.constants.proofs.geometry.lunar_right_ascension_sine.Goals as goal

pub returns : goal.returns
unfolding node_sine dec of_bits round
returns c = refl
