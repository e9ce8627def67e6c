-- `resonance::state::ResonanceState::p29` meets its contract: each arm is that of the resonance. Assumes nothing.
use lib.Ieee.{of_bits, round}
use Rattle.floats.specs.Rounded.{dec}
use Rattle.resonance.specs.Ask.{p29_of}
use Rattle.resonance.proofs.state.ResonanceState.p29.Goals as goal

pub returns-in-OneDay : goal.returns-in-OneDay
unfolding p29_of dec of_bits round
returns-in-OneDay c =
    simp c.in-OneDay.is

pub returns-in-HalfDay : goal.returns-in-HalfDay
unfolding p29_of dec of_bits round
returns-in-HalfDay c =
    simp c.in-HalfDay.is
