-- `floats::trig::sine_sum` meets its contract: its text is the definition's, with each constant by its value. Assumes nothing.
use mathlib.Core.Path.{refl}
use lib.Ieee.{of_bits, round}
use Rattle.floats.specs.Rounded.{dec}
use Rattle.floats.specs.Trig.{sine_sum, over}
use Rattle.floats.proofs.trig.sine_sum.Goals as goal

pub returns : goal.returns
unfolding sine_sum over dec of_bits round
returns c = refl
