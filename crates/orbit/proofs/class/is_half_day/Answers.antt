-- `orbit::class::is_half_day` meets its contract: its text is the definition's, with each constant by its value. Assumes nothing.
use mathlib.Core.Path.{refl}
use lib.Ieee.{of_bits, round}
use Rattle.floats.specs.Rounded.{dec}
use Rattle.orbit.specs.Class.{half_day}
use Rattle.orbit.proofs.class.is_half_day.Goals as goal

pub returns : goal.returns
unfolding half_day dec of_bits round
returns c = refl
