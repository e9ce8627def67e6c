-- A list of bytes with others laid over it. Definitions only. Assumes nothing.
use Rattle.std.specs.Prelude.{ℕ, ◌+◌, List, ◌++◌, cond, length, take, drop, leb}

-- the list l, with bs in place of the bytes from `at` on
unfoldable pub laid : ℕ → List ℕ → List ℕ → List ℕ
laid at bs l = take at l ++ bs ++ drop (at + length bs) l

-- the same where there is room for all of bs, and else l as it was
unfoldable pub laid_inside : ℕ → List ℕ → List ℕ → List ℕ
laid_inside at bs l = cond (leb (at + length bs) (length l)) (laid at bs l) l
