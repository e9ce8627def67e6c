-- `contains` of a range of floats, in the two comparisons. Assumes nothing.
use Rattle.std.proofs.Common.{◌≡◌, refl, ◌∙◌, Bool, true, false, cond, T, inl, inr}
use Rattle.std.specs.declared.cmp.Ordering.TheVariants.{Less, Equal, Greater}
use Rattle.std.specs.Prelude.{Some, None, Float, ◌||◌, ◌⊎◌}
use Rattle.std.specs.Float.Ieee.{lt, le, eq}
use Rattle.std.specs.Ordering.{partial_lt, partial_le, is_some_and, is_lt, is_le, float_partial_cmp}
use Rattle.std.proofs.lemmas.Float.{le_of_lt, le_of_eq, lt-or-eq}

pub partial_lt-floats : (x y : Float) → partial_lt float_partial_cmp x y ≡ lt x y
partial_lt-floats x y = go (lt x y) (eq x y) (lt y x)
  where
    go : (a b c : Bool) → is_some_and is_lt (cond a (Some Less) (cond b (Some Equal) (cond c (Some Greater) None))) ≡ a
    go true b c = refl
    go false true c = refl
    go false false true = refl
    go false false false = refl

pub partial_le-floats : (x y : Float) → partial_le float_partial_cmp x y ≡ le x y
partial_le-floats x y = go (lt x y) (eq x y) (lt y x) ∙ or (lt x y) (eq x y) (le x y) (le_of_lt x y) (le_of_eq x y) (lt-or-eq x y)
  where
    go : (a b c : Bool) → is_some_and is_le (cond a (Some Less) (cond b (Some Equal) (cond c (Some Greater) None))) ≡ (a || b)
    go true b c = refl
    go false true c = refl
    go false false true = refl
    go false false false = refl

    or : (a b d : Bool) → (T a → T d) → (T b → T d) → (T d → T a ⊎ T b) → (a || b) ≡ d
    or true b true f g h = refl
    or true b false f g h = absurd (f tt)
    or false true true f g h = refl
    or false true false f g h = absurd (g tt)
    or false false false f g h = refl
    or false false true f g h = elim (h tt) [ inl x ↦ absurd x | inr x ↦ absurd x ]
