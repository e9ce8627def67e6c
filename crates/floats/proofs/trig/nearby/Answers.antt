-- `floats::trig::nearby` meets its contract: its text is the definition's, with each constant by its value. Assumes nothing.
use mathlib.Core.Path.{refl}
use lib.Ieee.{of_bits, round}
use Rattle.floats.specs.Rounded.{dec}
use Rattle.floats.specs.Trig.{nearby}
use Rattle.floats.proofs.trig.nearby.Goals as goal

pub returns : goal.returns
unfolding nearby dec of_bits round
returns c = refl
