-- `floats::floor::floor` meets its contract: the laws of Whole, one for each answer. Assumes nothing.
use mathlib.Core.Path.{◌≡◌, sym, ap, ◌∙◌, subst}
use lib.Dec.{T}
use mathlib.Core.Bool.{Bool}
use lib.Ieee.{Float, lt, eq, of_bits, binary64, round}
use Rattle.floats.specs.Rounded.{◌⊕◌, ◌⊖◌, dec, magnitude}
use Rattle.floats.proofs.floor.Whole.{zero-case, large-case, small-case}
use Rattle.floats.proofs.floor.floor.Goals as goal

-- the code's tests, which have their numbers by bits
at_zero : (x : Float) (b : Bool) → eq x (of_bits binary64 0) ≡ b → eq x (dec 0 0) ≡ b
unfolding dec of_bits round
at_zero x b t = t

at-limit : (m x : Float) (b : Bool) → m ≡ magnitude x → lt m (of_bits binary64 0x4330_0000_0000_0000) ≡ b → lt (magnitude x) (dec 4503599627370496 0) ≡ b
unfolding dec of_bits round
at-limit m x b e t = ap (λ (y : Float). lt y (of_bits binary64 0x4330_0000_0000_0000)) (sym e) ∙ t

pub returns-then-x : goal.returns-then-x
returns-then-x c = zero-case c.args.x (at_zero c.args.x _ c.if-x.true)

pub returns-then-magnitude : goal.returns-then-magnitude
returns-then-magnitude c =
    let x = c.args.x in
    c.not_above.ensures
    ∙ small-case x c.moved.result
    (c.moved.ensures ∙ ap (λ (far : Float). (x ⊕ far) ⊖ far) c.far_from.ensures)
    (at_zero x _ c.if-x.false)
    (at-limit c.magnitude.result x _ c.magnitude.ensures c.if-magnitude.true)

pub returns : goal.returns
returns c =
    let x = c.args.x in
    large-case x (subst T (sym c.well_formed.0.1) tt) (at-limit c.magnitude.result x _ c.magnitude.ensures c.if-magnitude.false)
