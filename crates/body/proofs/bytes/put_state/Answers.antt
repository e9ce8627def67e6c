-- `body::bytes::put_state` meets its contract: no state is no bytes. Assumes nothing.
use mathlib.Core.Path.{sym, ◌∙◌, ap}
use Rattle.contents.specs.Laid.{laid}
use Rattle.contents.proofs.Laid.{laid_nil}
use Rattle.std.specs.Prelude.{Option}
use Rattle.resonance.specs.declared.state.ResonanceState.{ResonanceState}
use Rattle.body.specs.Floats.{float_bytes}
use Rattle.body.specs.Body.{state_numbers}
use Rattle.body.proofs.bytes.put_state.Goals as goal

pub returns-in_default : goal.returns-in_default
unfolding float_bytes
returns-in_default c =
    let a = c.args in
    sym (laid_nil a.at a.out.now) ∙ ap (λ (s : Option ResonanceState). laid a.at (float_bytes (state_numbers s)) a.out.now) (sym c.in_default.is)
