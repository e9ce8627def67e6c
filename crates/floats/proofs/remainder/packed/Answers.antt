-- `floats::remainder::packed` meets its contract: the digits go up as far as there is room and there are places. Assumes nothing.
use mathlib.Core.Path.{refl, sym, ap, ◌∙◌, subst}
use Prim.Native.Nat.{ℕ, ◌+◌, ◌-◌, ◌*◌, ◌%◌, ◌^◌, ◌<◌}
use native.Mathlib.Nat.{zero-mul}
use native.Mathlib.Omega.{arith}
use Rattle.floats.proofs.Units.{Moved, eleven, moved-min, moved-units, moved-lt, units-zero}
use Rattle.floats.proofs.remainder.packed.Goals.{After-min-up}
use Rattle.floats.proofs.remainder.packed.Goals as goal

moved : (c : After-min-up) → Moved c.args.sig c.args.shift c.min-up.result
moved c = subst (λ (u : ℕ). Moved c.args.sig c.args.shift u) (sym c.min-up.ensures) (moved-min c.args.sig (omega (arith, c.if-sig-eq0.false)) c.requires.0 c.args.shift)

small : (c : After-min-up) → (c.args.shift - c.min-up.result) * 2 ^ 52 + c.args.sig * 2 ^ c.min-up.result % 2 ^ 64 < 2047 * 2 ^ 52
small c = moved-lt c.args.sig c.args.shift c.min-up.result c.requires.1 (moved c)

pub returns-then-sig-eq0-clause-is : goal.returns-then-sig-eq0-clause-is
returns-then-sig-eq0-clause-is c = units-zero 0 refl ∙ sym (ap (λ (k : ℕ). k * 2 ^ c.args.shift) c.if-sig-eq0.true ∙ zero-mul (2 ^ c.args.shift))

pub overflow_sub-room : goal.overflow_sub-room
overflow_sub-room c = eleven c.args.sig (omega (arith, c.if-sig-eq0.false)) c.requires.0

pub overflow_add-result : goal.overflow_add-result
overflow_add-result c = omega (arith, small c)

pub returns-clause-is : goal.returns-clause-is
returns-clause-is c = moved-units c.args.sig c.args.shift c.min-up.result (moved c)

pub returns-clause-finite : goal.returns-clause-finite
returns-clause-finite c = small c
