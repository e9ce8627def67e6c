-- `constants::geometry::lunar_inclination_cosine` meets its contract: its text is the definition's, with each constant by its value. Assumes nothing.
use mathlib.Core.Path.{refl}
use lib.Ieee.{of_bits, round}
use Rattle.floats.specs.Rounded.{dec}
use Rattle.constants.specs.Geometry.{inclination_cosine}
use Rattle.constants.proofs.geometry.lunar_inclination_cosine.Goals as goal

pub returns : goal.returns
unfolding inclination_cosine dec of_bits round
returns c = refl
