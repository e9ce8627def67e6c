-- `resonance::state::ResonanceState::moved` meets its contract: the three formulas, and one test of what they give. Assumes nothing.
use mathlib.Core.Path.{ap, ◌∙◌}
use mathlib.Core.Bool.{Bool}
use lib.Ieee.{of_bits, round}
use Rattle.floats.specs.Rounded.{dec}
use Rattle.std.specs.Bool.{then_some}
use Rattle.resonance.specs.State.{half_square, moved, moved_by}
use Rattle.resonance.proofs.state.ResonanceState.moved.Goals as goal

pub returns : goal.returns
unfolding moved_by half_square dec of_bits round
returns c =
    let a = c.args in
    c.then_some.ensures ∙ ap (λ (ok : Bool). then_some ok (moved a.self a.delta_t a.rates)) c.is_finite.ensures
