-- `resonance::advance`'s stepping meets its contract: the refusal by the two times, or the case of the loop's answer. Assumes nothing.
use mathlib.Core.Path.{sym, ap, ◌∙◌}
use Rattle.std.specs.Prelude.{Err}
use Rattle.resonance.proofs.Walk.{advance-refused, advance-walk}
use Rattle.resonance.proofs.state.ResonanceState.advance.Goals as goal

pub returns-in-Err : goal.returns-in-Err
returns-in-Err c = ap Err c.refused.ensures ∙ advance-refused c.args.c c.args.self c.args.t c.in-Err.fault (sym c.check_times.ensures ∙ c.in-Err.is)

pub returns-in-Ok : goal.returns-in-Ok
returns-in-Ok c = simp (c.or.ensures, c.walk.ensures, c.refused-in-Ok.ensures) (advance-walk c.args.c c.args.self c.args.t (sym c.check_times.ensures ∙ c.in-Ok.is))
