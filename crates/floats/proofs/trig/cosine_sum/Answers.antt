-- `floats::trig::cosine_sum` meets its contract: its text is the definition's, with each constant by its value. Assumes nothing.
use mathlib.Core.Path.{refl}
use lib.Ieee.{of_bits, round}
use Rattle.floats.specs.Rounded.{dec}
use Rattle.floats.specs.Trig.{cosine_sum, over}
use Rattle.floats.proofs.trig.cosine_sum.Goals as goal

pub returns : goal.returns
unfolding cosine_sum over dec of_bits round
returns c = refl
