-- `floats::remainder::rest` meets its contract: digits further to the right are less than any others, and digits further to the left are brought there first.
-- Assumes nothing.
use mathlib.Core.Path.{sym, ap, ap₂, ◌∙◌, subst}
use Prim.Native.Nat.{ℕ, ◌*◌, ◌%◌, ◌^◌, ◌<◌}
use native.Mathlib.Nat.{mod-lt, mod-eq_of_lt, lt_trans}
use native.Mathlib.Omega.{arith}
use Rattle.floats.proofs.Units.{units-is, sig-some, units-less, shifted-mod}
use Rattle.floats.proofs.remainder.rest.Goals.{Else-from-to}
use Rattle.floats.proofs.remainder.rest.Goals as goal

pub returns-then-from-to-clause-is : goal.returns-then-from-to-clause-is
returns-then-from-to-clause-is c = sym (mod-eq_of_lt (units-less c.args.a c.args.b (omega (arith, c.shift_of-from.ensures, c.shift_of-to.ensures, c.if-from-to.true))))

pub wrapped-requires : goal.wrapped-requires
wrapped-requires c = (subst (λ (k : ℕ). 0 < k) (sym c.significand-2.ensures.is) (sig-some c.args.b c.requires.1), c.significand-2.ensures.few)

pub packed-requires : goal.packed-requires
packed-requires c =
    let some : 0 < c.significand-2.result = subst (λ (k : ℕ). 0 < k) (sym c.significand-2.ensures.is) (sig-some c.args.b c.requires.1) in
    let less : c.wrapped.result < c.significand-2.result = subst (λ (k : ℕ). k < c.significand-2.result) (sym c.wrapped.ensures) (mod-lt _ some) in
    (lt_trans less c.significand-2.ensures.few, omega (arith, c.shift_of-to.ensures))

pub returns-clause-is : goal.returns-clause-is
returns-clause-is c =
    let some : 0 < c.significand-2.result = subst (λ (k : ℕ). 0 < k) (sym c.significand-2.ensures.is) (sig-some c.args.b c.requires.1) in
    c.packed.ensures.is
    ∙ ap (λ (k : ℕ). k * 2 ^ c.shift_of-to.result) c.wrapped.ensures
    ∙ shifted-mod c.significand.result c.significand-2.result c.shift_of-from.result c.shift_of-to.result some c.if-from-to.false
    ∙ ap₂ (λ (x y : ℕ). x % y)
    (ap₂ (λ (x y : ℕ). x * 2 ^ y) c.significand.ensures.is c.shift_of-from.ensures ∙ sym (units-is c.args.a))
    (ap₂ (λ (x y : ℕ). x * 2 ^ y) c.significand-2.ensures.is c.shift_of-to.ensures ∙ sym (units-is c.args.b))
