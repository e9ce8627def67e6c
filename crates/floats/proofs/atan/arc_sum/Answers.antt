-- `floats::atan::arc_sum` meets its contract: its text is the definition's, with each constant by its value and each call by what it gives. Assumes nothing.
use mathlib.Core.Path.{refl}
use lib.Ieee.{of_bits, round}
use Rattle.floats.specs.Rounded.{dec}
use Rattle.floats.specs.Atan.{arc_sum}
use Rattle.floats.proofs.atan.arc_sum.Goals as goal

pub returns : goal.returns
unfolding arc_sum dec of_bits round
returns c = refl
