-- The laws of bytes that are laid over a list: one after another is all at once. Assumes nothing.
use mathlib.Core.Path.{◌≡◌, sym, ap, ◌∙◌}
use mathlib.Core.List.{List, [], ◌++◌, append_assoc, append-nil}
use Prim.Native.Nat.{ℕ, ◌+◌, ◌≤◌, ◌<◌}
use native.Mathlib.Nat.{add_assoc, zero-add, add-zero}
use lib.ListN.{take-append-drop, length, take, drop, length-append}
use lib.Seq.{take_at, drop_at, length-take-le, drop-drop, paste, take-length}
use borrow.Author.Tests.{le-leb, lt-leb}
use Rattle.contents.specs.Laid.{laid, laid_inside}

-- what stands before the end of what was laid
pub take-laid : (at : ℕ) (bs l : List ℕ) → at ≤ length l → take (at + length bs) (laid at bs l) ≡ take at l ++ bs
unfolding laid
take-laid at bs l h = take_at (take at l ++ bs) _ (at + length bs) (simp (length-append, length-take-le at l h))

-- what stands past the end of what was laid
pub drop-laid : (at : ℕ) (bs l : List ℕ) (n : ℕ) → at ≤ length l → drop (at + length bs + n) (laid at bs l) ≡ drop (at + length bs + n) l
unfolding laid
drop-laid at bs l n h =
    sym (drop-drop n (at + length bs) (take at l ++ bs ++ drop (at + length bs) l))
    ∙ ap (drop n) (drop_at (take at l ++ bs) (drop (at + length bs) l) (at + length bs) (simp (length-append, length-take-le at l h)))
    ∙ drop-drop n (at + length bs) l

-- one after another is both at once
pub laid-laid : (at : ℕ) (xs bs l : List ℕ) → at ≤ length l → laid (at + length xs) bs (laid at xs l) ≡ laid at (xs ++ bs) l
laid-laid at xs bs l h =
    unfold laid in
    ap (λ (p : List ℕ). p ++ bs ++ drop (at + length xs + length bs) (laid at xs l)) (take-laid at xs l h)
    ∙ ap (λ (p : List ℕ). take at l ++ xs ++ bs ++ p) (drop-laid at xs l (length bs) h)
    ∙ simp (length-append, append_assoc, add_assoc)

-- at the front
pub laid-front : (bs l : List ℕ) → laid 0 bs l ≡ bs ++ drop (length bs) l
unfolding laid
laid-front bs l = simp (zero-add)

-- a copy that is done
pub paste-laid : (at : ℕ) (s l : List ℕ) → paste l at s (length s) ≡ laid at s l
unfolding laid
paste-laid at s l = simp take-length

-- one after another: what was laid goes on
pub laid_then : (at q : ℕ) (xs ys l : List ℕ) {l₁ l₂ : List ℕ} → at ≤ length l → l₁ ≡ laid at xs l → q ≡ at + length xs → l₂ ≡ laid q ys l₁
    → l₂ ≡ laid at (xs ++ ys) l
laid_then at q xs ys l {l₁} {l₂} h p e r =
    r ∙ ap (laid q ys) p ∙ ap (λ (k : ℕ). laid k ys (laid at xs l)) e ∙ laid-laid at xs ys l h

pub laid_nil : (at : ℕ) (l : List ℕ) → laid at [] l ≡ l
unfolding laid
laid_nil at l = simp (append-nil, add-zero, take-append-drop)

-- ---- where there is room, and where not

pub laid-inside : (at : ℕ) (bs l : List ℕ) → at + length bs ≤ length l → laid_inside at bs l ≡ laid at bs l
unfolding laid_inside
laid-inside at bs l h = simp (le-leb _ _ h)

pub laid-outside : (at : ℕ) (bs l : List ℕ) → length l < at + length bs → laid_inside at bs l ≡ l
unfolding laid_inside
laid-outside at bs l h = simp (lt-leb _ _ h)
