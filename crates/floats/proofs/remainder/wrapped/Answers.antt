-- `floats::remainder::wrapped` meets its contract: each turn makes 11 places of the shift. Assumes nothing.
use mathlib.Core.Path.{◌∙◌}
use Prim.Native.Nat.{◌^◌}
use native.Mathlib.Nat.{mod-lt}
use Rattle.std.proofs.lemmas.Nat.{mul-mod_first}
use Rattle.floats.proofs.Units.{wrapped-step, wrapped-last}
use Rattle.floats.proofs.remainder.wrapped.Goals as goal

pub loop-left-init : goal.loop-left-init
loop-left-init c = (mod-lt c.args.sig c.requires.0, mul-mod_first c.args.sig (2 ^ c.args.shift) c.args.by)

pub loop-left-preserved : goal.loop-left-preserved
loop-left-preserved c = wrapped-step c.loop-left.r c.loop-left.left c.args.by _ c.requires.0 c.requires.1 c.loop-left.invariant.0 c.loop-left-test.true c.loop-left.invariant.1

pub returns : goal.returns
returns c = wrapped-last c.loop-left.r c.loop-left.left c.args.by c.requires.1 c.loop-left.invariant.0 c.loop-left-test.false ∙ c.loop-left.invariant.1
