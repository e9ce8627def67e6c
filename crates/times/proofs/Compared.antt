-- The library's comparisons of floats, in those of the specs. Assumes nothing.
use mathlib.Core.Path.{◌≡◌, refl}
use mathlib.Core.Bool.{Bool, true, false, cond, ◌&&◌}
use lib.Ieee.{Float, lt, eq}
use Rattle.std.specs.Option.{unwrap_or}
use Rattle.std.specs.Ordering.{float_partial_cmp}
use Rattle.std.specs.Prelude.{T, Some, None}
use Rattle.std.specs.declared.cmp.Ordering.TheVariants.{Less, Equal, Greater}
use Rattle.std.proofs.lemmas.Float.{eq_flip, eq-not_lt}
use Rattle.times.specs.Time.{ordering}

-- `partial_cmp` with unordered as equal
pub ordering_is : (x y : Float) → unwrap_or (float_partial_cmp x y) Equal ≡ ordering x y
ordering_is x y = go (lt x y) (eq x y) (lt y x) (λ (p : T (eq x y)). eq-not_lt y x (eq_flip x y p))
  where
    go : (a b c : Bool) → (T b → ¬ T c) → unwrap_or (cond a (Some Less) (cond b (Some Equal) (cond c (Some Greater) None))) Equal ≡ cond a Less (cond c Greater Equal)
    go true b c h = refl
    go false true true h = absurd (h tt tt)
    go false true false h = refl
    go false false true h = refl
    go false false false h = refl

pub and-comm : (a b : Bool) → (a && b) ≡ (b && a)
and-comm true true = refl
and-comm true false = refl
and-comm false true = refl
and-comm false false = refl
