-- `resonance::advance::replay` meets its contract: the test of the stored time, and then the case of the loop's answer. Assumes nothing.
use mathlib.Core.Path.{◌≡◌, sym, ap, ◌∙◌}
use Rattle.std.proofs.Common.{arith}
use Rattle.std.proofs.lemmas.Grind.{common_steps}
use Rattle.resonance.specs.declared.state.ResonanceState.{ResonanceState}
use Rattle.times.specs.Time.{refusal}
use Rattle.resonance.specs.Advance.{replay_of}
use Rattle.resonance.proofs.Walk.{fresh-asked, replay-not, replay-walk, replay_from}
use Rattle.resonance.proofs.advance.replay.Goals.{After-walk, Else-not-is_placed}
use Rattle.resonance.proofs.advance.replay.Goals as goal

pub returns-then-not-is_placed : goal.returns-then-not-is_placed
returns-then-not-is_placed c = replay-not _ _ _ _ (sym c.is_placed.ensures ∙ c.if-not-is_placed.true)

pub walk-requires : goal.walk-requires
walk-requires c =
    ap (λ (f : ResonanceState). refusal f.t c.args.stored.t) c.new.ensures ∙ fresh-asked c.args.stored.t (sym c.is_placed.ensures ∙ c.if-not-is_placed.false)

-- by the loop's answer
whole : (c : After-walk) → let a = c.args in replay_from a.stored c.walk.result ≡ replay_of a.c a.mean_motion_0 a.lambda_0 a.stored
whole c =
    let a = c.args in
    rw c.walk.ensures (rw c.new.ensures (replay-walk a.c a.mean_motion_0 a.lambda_0 a.stored (sym c.is_placed.ensures ∙ c.if-not-is_placed.false)))

pub returns-in_err-state : goal.returns-in_err-state
returns-in_err-state c =
    let w = whole (goal.at.returns-in_err-state c).After-walk in grind (arith, common_steps)

pub returns-then-is_same : goal.returns-then-is_same
returns-then-is_same c =
    let w = whole (goal.at.returns-then-is_same c).After-walk in grind (arith, common_steps)

pub returns-else-is_same : goal.returns-else-is_same
returns-else-is_same c =
    let w = whole (goal.at.returns-else-is_same c).After-walk in grind (arith, common_steps)
