-- `orbit::model::wgs72` meets its contract: its text is the definition's, with each constant by its value. Assumes nothing.
use mathlib.Core.Path.{refl}
use lib.Ieee.{of_bits, round}
use Rattle.floats.specs.Rounded.{dec}
use Rattle.orbit.specs.Model.{wgs72_model}
use Rattle.orbit.proofs.model.wgs72.Goals as goal

pub returns : goal.returns
unfolding wgs72_model dec of_bits round
returns c = refl
