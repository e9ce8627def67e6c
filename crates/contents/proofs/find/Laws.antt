-- The laws of a search: what one entry decides, and the satellite of an entry by its place. Assumes nothing.
use mathlib.Core.Path.{◌≡◌, refl, ◌∙◌}
use mathlib.Core.List.{List, ◌∷◌, map}
use Prim.Native.Nat.{ℕ, zero, suc, ◌+◌, ◌*◌, ◌<◌, ◌≤◌}
use native.Mathlib.Omega.{arith}
use borrow.Author.Tests.{eq-eqb, ne_eqb}
use lib.ListN.{drop, get_or}
use lib.Seq.{drop-drop}
use Rattle.contents.specs.LittleEndian.{le}
use Rattle.contents.specs.Format.{entries}
use Rattle.contents.specs.Records.{Rec, record_of}
use Rattle.contents.specs.Find.{sought}
use Rattle.contents.specs.declared.format.Entry.{Entry}
use Rattle.std.specs.Prelude.{Some, None}

module _ (x : ℕ) (e : Entry) (es : List Entry) where
  pub sought-here : e.satellite ≡ x → sought x (e ∷ es) ≡ Some (record { offset = e.offset; size = e.size })
  unfolding sought
  sought-here h = simp (eq-eqb _ _ h)

  pub sought-past : (e.satellite ≡ x → ⊥) → sought x (e ∷ es) ≡ sought x es
  unfolding sought
  sought-past h = simp (ne_eqb _ _ h)

pub sought-end : (x left : ℕ) (s : List ℕ) → left ≤ 0 → sought x (entries left s) ≡ None
unfolding entries sought
sought-end x zero s h = refl
sought-end x (suc k) s h = absurd (omega arith)

-- the satellite of entry i is the number of the first four of its bytes
pub satellite-of : (f : List ℕ) (i n : ℕ) (s : List ℕ) → i < n
    → get_or (map (λ (r : Rec). r.satellite) (map (record_of f) (entries n s))) i 0 ≡ le 4 (drop (12 * i) s)
unfolding entries
satellite-of f i zero s h = absurd (omega arith)
satellite-of f zero (suc n) s h = refl
satellite-of f (suc i) (suc n) s h =
    let e : 12 + 12 * i ≡ 12 * suc i = omega arith in
    satellite-of f i n (drop 12 s) (omega arith) ∙ simp (drop-drop, e)
