-- `body::floats_at::put_floats` meets its contract: what is left to write gives the whole. Assumes nothing.
use Prim.Native.Nat.{ℕ, ◌+◌, ◌*◌}
use mathlib.Core.Path.{sym, ◌∙◌, ap, refl}
use native.Mathlib.Omega.{arith}
use lib.Ieee.{nan}
use Rattle.contents.specs.LittleEndian.{le_bytes}
use Rattle.contents.specs.Laid.{laid, laid_inside}
use Rattle.body.specs.Floats.{float_bytes}
use Rattle.body.proofs.Floats.{laid-float, laid_end}
use Rattle.body.proofs.floats_at.put_floats.Goals as goal

pub loop-i-init : goal.loop-i-init
loop-i-init c = let a = c.args in (refl, ap (λ (k : ℕ). laid k (float_bytes a.xs.now) a.out.now) (omega arith))

pub loop-i-preserved : goal.loop-i-preserved
loop-i-preserved c =
    let l = c.loop-i in
    let a = c.args in (
      omega arith,
      l.invariant.1 ∙ laid-float a.at l.i a.xs.now nan l.out (omega arith) (omega arith)
          (c.put_u64.ensures ∙ ap (λ (k : ℕ). laid_inside (a.at + 8 * l.i) (le_bytes 8 k) l.out) c.bits_of.ensures),
    )

pub returns : goal.returns
returns c =
    let l = c.loop-i in
    let a = c.args in
    sym (l.invariant.1 ∙ laid_end a.at l.i a.xs.now l.out (omega arith))
