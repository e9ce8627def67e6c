-- `floats::remainder::rem_euclid` meets its contract: each arm is that of the test. Assumes nothing.
use mathlib.Core.Path.{◌≡◌, sym, ap, ◌∙◌, subst}
use mathlib.Core.Bool.{Bool, true, false, cond}
use lib.Ieee.{Float, of_bits, round, lt}
use Rattle.floats.specs.Rounded.{◌⊕◌, ◌rem◌, dec, magnitude}
use Rattle.floats.specs.Remainder.{rem_euclid}
use Rattle.floats.proofs.remainder.rem_euclid.Goals as goal

lifted : (x m r g : Float) → r ≡ x rem m → g ≡ magnitude m → lt r (dec 0 0) ≡ true → r ⊕ g ≡ rem_euclid x m
unfolding rem_euclid
lifted x m r g e h l =
    ap (λ (z : Float). r ⊕ z) h
    ∙ subst (λ (z : Float). r ⊕ magnitude m ≡ cond (lt z (dec 0 0)) (z ⊕ magnitude m) z) e (sym (ap (λ (b : Bool). cond b (r ⊕ magnitude m) r) l))

left : (x m r : Float) → r ≡ x rem m → lt r (dec 0 0) ≡ false → r ≡ rem_euclid x m
unfolding rem_euclid
left x m r e l = subst (λ (z : Float). r ≡ cond (lt z (dec 0 0)) (z ⊕ magnitude m) z) e (sym (ap (λ (b : Bool). cond b (r ⊕ magnitude m) r) l))

pub returns-then-r : goal.returns-then-r
unfolding dec of_bits round
returns-then-r c = lifted c.args.x c.args.m c.rem-r.result _ c.rem-r.ensures c.magnitude.ensures c.if-r.true

pub returns-else-r : goal.returns-else-r
unfolding dec of_bits round
returns-else-r c = left c.args.x c.args.m c.rem-r.result c.rem-r.ensures c.if-r.false
