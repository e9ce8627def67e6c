-- `orbit::model::wgs84` meets its contract: its text is the definition's, with each constant by its value. Assumes nothing.
use mathlib.Core.Path.{refl}
use lib.Ieee.{of_bits, round}
use Rattle.floats.specs.Rounded.{dec}
use Rattle.orbit.specs.Model.{wgs84_model}
use Rattle.orbit.proofs.model.wgs84.Goals as goal

pub returns : goal.returns
unfolding wgs84_model dec of_bits round
returns c = refl
