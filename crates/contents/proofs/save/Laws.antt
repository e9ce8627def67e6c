-- The laws of a save's parts, over the entries of the old file. Assumes nothing.
use mathlib.Core.Path.{◌≡◌, refl, sym, ap, ◌∙◌}
use mathlib.Core.List.{List, [], ◌∷◌}
use Prim.Native.Nat.{ℕ, zero, suc, ◌+◌, ◌*◌, ◌≤◌, ◌<◌}
use native.Mathlib.Omega.{arith}
use borrow.Author.Tests.{lt-ltb, le-ltb, eq-eqb, ne_eqb}
use lib.ListN.{length, drop, length-append}
use Rattle.contents.specs.Laid.{laid}
use Rattle.contents.specs.Format.{entries}
use Rattle.contents.specs.Records.{entry_bytes}
use Rattle.contents.specs.Table.{table, end_of, place_of}
use Rattle.contents.specs.declared.format.Entry.{Entry}
use Rattle.contents.proofs.Le.{length-le_bytes}
use Rattle.contents.proofs.Laid.{laid-laid}

pub length-entry_bytes : (x at n : ℕ) → length (entry_bytes x at n) ≡ 12
unfolding entry_bytes
length-entry_bytes x at n = simp (length-append, length-le_bytes)

-- ---- where a satellite goes

module _ (x i at : ℕ) (e : Entry) (es : List Entry) where
  pub place-before : x < e.satellite → place_of x i at (e ∷ es) ≡ record { below = i; cut = at; old = 0; rest = at }
  unfolding place_of
  place-before h = simp (lt-ltb _ _ h)

  pub place_here : e.satellite ≤ x → x ≡ e.satellite → place_of x i at (e ∷ es) ≡ record { below = i; cut = at; old = 1; rest = at + e.size }
  unfolding place_of
  place_here h k = simp (le-ltb _ _ h, eq-eqb _ _ k)

  pub place-past : e.satellite ≤ x → (x ≡ e.satellite → ⊥) → place_of x i at (e ∷ es) ≡ place_of x (i + 1) (at + e.size) es
  unfolding place_of
  place-past h k = simp (le-ltb _ _ h, ne_eqb _ _ k)

pub place_end : (x i at left : ℕ) (s : List ℕ) → left ≤ 0 → place_of x i at (entries left s) ≡ record { below = i; cut = at; old = 0; rest = at }
unfolding place_of entries
place_end x i at zero s h = refl
place_end x i at (suc k) s h = absurd (omega arith)

-- ---- the entries written one after another

-- what is written with an entry, and the rest after it
pub laid-entry : (at next start : ℕ) (e : Entry) (es : List Entry) (l : List ℕ) {l₁ : List ℕ} → at ≤ length l → at + 12 ≡ next
    → l₁ ≡ laid at (entry_bytes e.satellite start e.size) l
    → laid at (table start (e ∷ es)) l ≡ laid next (table (start + e.size) es) l₁
unfolding table
laid-entry at next start e es l {l₁} h k p =
    sym (laid-laid at (entry_bytes e.satellite start e.size) (table (start + e.size) es) l h)
    ∙ simp (length-entry_bytes, k, p)

pub table-end : (start left : ℕ) (s : List ℕ) → left ≤ 0 → table start (entries left s) ≡ []
unfolding table entries
table-end start zero s h = refl
table-end start (suc k) s h = absurd (omega arith)

pub end_of-end : (start left : ℕ) (s : List ℕ) → left ≤ 0 → end_of start (entries left s) ≡ start
unfolding end_of entries
end_of-end start zero s h = refl
end_of-end start (suc k) s h = absurd (omega arith)

pub end_of-more : (start : ℕ) (e : Entry) (es : List Entry) → end_of start (e ∷ es) ≡ end_of (start + e.size) es
unfolding end_of
end_of-more start e es = refl

pub length-table : (start : ℕ) (es : List Entry) → length (table start es) ≡ 12 * length es
unfolding table
length-table start [] = refl
length-table start (e ∷ es) = simp (length-append, length-entry_bytes, length-table (start + e.size) es) (omega arith)

pub length-entries : (n : ℕ) (s : List ℕ) → length (entries n s) ≡ n
unfolding entries
length-entries zero s = refl
length-entries (suc n) s = ap suc (length-entries n (drop 12 s))
