-- `resonance::state::ResonanceState::base` meets its contract: its text is the definition's. Assumes nothing.
use mathlib.Core.Path.{refl}
use lib.Ieee.{of_bits, round}
use Rattle.floats.specs.Rounded.{dec}
use Rattle.resonance.specs.Ask.{base_of}
use Rattle.resonance.proofs.state.ResonanceState.base.Goals as goal

pub returns : goal.returns
unfolding base_of dec of_bits round
returns c = refl
