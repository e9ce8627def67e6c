-- Which answer a save gives, by its tests; and the new file laid down by its three parts. Assumes nothing.
use mathlib.Core.Path.{◌≡◌, sym, ap, ◌∙◌}
use mathlib.Core.Bool.{true, false}
use mathlib.Core.List.{List, ◌++◌, append_assoc}
use Prim.Native.Nat.{ℕ, ◌+◌, ◌-◌, ◌^◌, ◌≤◌, ◌<◌}
use native.Mathlib.Omega.{arith}
use borrow.Author.Tests.{lt-leb, le-leb, lt-ltb, le-ltb}
use lib.ListN.{length, drop, length-append}
use Rattle.contents.specs.Format.{most, count, contents_end, contents_right}
use Rattle.contents.specs.Laid.{laid}
use Rattle.contents.specs.Records.{header}
use Rattle.contents.specs.Save.{saved_records, saved_file, saved}
use Rattle.contents.specs.Table.{table_with, bodies_with}
use Rattle.std.specs.Prelude.{Ok, Err}
use Rattle.contents.specs.declared.save.SaveError.TheVariants.{FileWrong, StoreFull, OutputShort}
use Rattle.contents.specs.declared.save.Place.{Place}
use Rattle.contents.proofs.Laid.{laid_then, laid-front}
use Rattle.contents.proofs.save.Laws.{length-table, length-entries, length-entry_bytes}
use Rattle.contents.proofs.save.New.{New, length-header}

module _ (s : List ℕ) (x : ℕ) (b : List ℕ) (room : ℕ) where
  pub is-wrong : contents_right s ≡ false → saved s x b room ≡ Err FileWrong
  unfolding saved
  is-wrong h = simp h

  pub too_many : contents_right s ≡ true → most < length (saved_records s x b) → saved s x b room ≡ Err StoreFull
  unfolding saved
  too_many h k = simp (h, lt-leb _ _ k)

  pub too_long : contents_right s ≡ true → length (saved_records s x b) ≤ most → 2 ^ 32 ≤ length (saved_file s x b) → saved s x b room ≡ Err StoreFull
  unfolding saved
  too_long h k l = simp (h, le-leb _ _ k, le-ltb _ _ l)

  pub no_room : contents_right s ≡ true → length (saved_records s x b) ≤ most → length (saved_file s x b) < 2 ^ 32 → room < length (saved_file s x b)
      → saved s x b room ≡ Err OutputShort
  unfolding saved
  no_room h k l m = simp (h, le-leb _ _ k, lt-ltb _ _ l, lt-leb _ _ m)

  pub is-written : contents_right s ≡ true → length (saved_records s x b) ≤ most → length (saved_file s x b) < 2 ^ 32 → length (saved_file s x b) ≤ room
      → saved s x b room ≡ Ok (length (saved_file s x b))
  unfolding saved
  is-written h k l m = simp (h, le-leb _ _ k, lt-ltb _ _ l, le-leb _ _ m)

length-table_with : (s : List ℕ) (n below old x size : ℕ) → below + old ≤ n → 8 + length (table_with s n below old x size) ≡ contents_end (n + 1 - old)
unfolding table_with
length-table_with s n below old x size h = simp (length-append, length-table, length-entries, length-entry_bytes) (omega arith)

-- header, contents and bodies laid down one after another are the new file
pub three : (s : List ℕ) (x : ℕ) (b : List ℕ) (p : Place) → New s x b p → (n : ℕ) → n ≡ count s → (l : List ℕ) {l₁ l₂ l₃ : List ℕ}
    → l₁ ≡ laid 0 (header (n + 1 - p.old)) l
    → l₂ ≡ laid 8 (table_with s n p.below p.old x (length b)) l₁
    → l₃ ≡ laid (contents_end (n + 1 - p.old)) (bodies_with s (contents_end n) p.cut p.rest b) l₂
    → l₃ ≡ saved_file s x b ++ drop (length (saved_file s x b)) l
three s x b p k n e l {l₁} {l₂} {l₃} h₁ h₂ h₃ =
    let w = k.within in
    let m = length-header (n + 1 - p.old) in
    let t = length-table_with s n p.below p.old x (length b) (omega arith) in
    let g₂ = laid_then 0 8 (header (n + 1 - p.old)) (table_with s n p.below p.old x (length b)) l (omega arith) h₁ (omega arith) h₂ in
    let g₃ = laid_then 0 (contents_end (n + 1 - p.old)) (header (n + 1 - p.old) ++ table_with s n p.below p.old x (length b)) (bodies_with s (contents_end n) p.cut p.rest b) l
    (omega arith) g₂ (simp length-append (omega arith)) h₃ in
    g₃ ∙ ap (λ (f : List ℕ). laid 0 f l) (sym (k.file ∙ simp (append_assoc, e))) ∙ laid-front (saved_file s x b) l
