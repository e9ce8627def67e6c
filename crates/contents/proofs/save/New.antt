-- The new file, by the parts that a save writes: their bytes, and how many. Assumes nothing.
use mathlib.Core.Path.{◌≡◌, refl, sym, ap, ◌∙◌}
use mathlib.Core.List.{List, [], ◌∷◌, ◌++◌, append_assoc, map}
use Prim.Native.Nat.{ℕ, zero, suc, ◌+◌, ◌*◌, ◌-◌, ◌≤◌}
use native.Mathlib.Nat.{add_assoc, add-zero, zero-add, suc-sub-suc, sub-zero}
use native.Mathlib.Omega.{arith}
use lib.ListN.{length, take, drop, length-append, length-drop, length-map}
use lib.Seq.{length-take-le, drop-drop}
use Rattle.contents.specs.LittleEndian.{le_bytes}
use Rattle.contents.specs.Format.{entry_of, entries, count, contents_end, entries_of}
use Rattle.contents.specs.Records.{Rec, record_of, bodies, contents, entry_bytes, header, file_of}
use Rattle.contents.specs.Save.{saved_records, saved_file}
use Rattle.contents.specs.Table.{table, end_of, place_of, table_with, bodies_with}
use Rattle.contents.specs.declared.format.Entry.{Entry}
use Rattle.contents.specs.declared.save.Place.{Place}
use Rattle.contents.proofs.format.Laws.{Right}
use Rattle.contents.proofs.save.Laws.{length-table, length-entries, length-entry_bytes}
use Rattle.contents.proofs.save.Split.{Sized, take-sized, drop-sized, chain, Split, split}

take-entries : (k n : ℕ) (s : List ℕ) → k ≤ n → take k (entries n s) ≡ entries k s
unfolding entries
take-entries zero n s h = refl
take-entries (suc k) zero s h = absurd (omega arith)
take-entries (suc k) (suc n) s h = ap (λ (es : List Entry). entry_of s ∷ es) (take-entries k n (drop 12 s) (omega arith))

drop-entries : (k n : ℕ) (s : List ℕ) → k ≤ n → drop k (entries n s) ≡ entries (n - k) (drop (12 * k) s)
unfolding entries
drop-entries zero n s h = simp sub-zero
drop-entries (suc k) zero s h = absurd (omega arith)
drop-entries (suc k) (suc n) s h =
    let e : 12 + 12 * k ≡ 12 * suc k = omega arith in
    drop-entries k n (drop 12 s) (omega arith) ∙ simp (drop-drop, e, suc-sub-suc)

-- contents of records one after others
contents-append : (at : ℕ) (rs qs : List Rec) → contents at (rs ++ qs) ≡ contents at rs ++ contents (at + length (bodies rs)) qs
unfolding contents bodies
contents-append at [] qs = simp add-zero
contents-append at (r ∷ rs) qs = simp (append_assoc, contents-append (at + length r.body) rs qs, length-append, add_assoc)

bodies-append : (rs qs : List Rec) → bodies (rs ++ qs) ≡ bodies rs ++ bodies qs
unfolding bodies
bodies-append [] qs = refl
bodies-append (r ∷ rs) qs = simp (append_assoc, bodies-append rs qs)

-- entries whose bodies have their lengths
pub contents-table : (at : ℕ) (s : List ℕ) (es : List Entry) → Sized s es → contents at (map (record_of s) es) ≡ table at es
unfolding contents table
contents-table at s [] h = refl
contents-table at s (e ∷ es) h = simp (h.0, contents-table (at + e.size) s es h.1)

end_of-bodies : (at : ℕ) (s : List ℕ) (es : List Entry) → Sized s es → end_of at es ≡ at + length (bodies (map (record_of s) es))
unfolding end_of bodies
end_of-bodies at s [] h = sym (add-zero at)
end_of-bodies at s (e ∷ es) h = end_of-bodies (at + e.size) s es h.1 ∙ simp (length-append, h.0, add_assoc)

pub length-header : (n : ℕ) → length (header n) ≡ 8
unfolding header le_bytes
length-header n = refl

-- ---- the new file

-- what a save has to know of a place
pub record New (s : List ℕ) (x : ℕ) (b : List ℕ) (p : Place) : Type 0 where
  pub single : p.old ≤ 1
  pub within : p.below + p.old ≤ count s
  pub from : contents_end (count s) ≤ p.cut
  pub to : p.cut ≤ p.rest
  pub end : p.rest ≤ length s
  pub many : length (saved_records s x b) ≡ count s + 1 - p.old
  pub mid : end_of (contents_end (count s + 1 - p.old)) (entries p.below (drop 8 s))
      ≡ contents_end (count s + 1 - p.old) + (p.cut - contents_end (count s))
  pub file : saved_file s x b
      ≡ header (count s + 1 - p.old)
      ++ (table_with s (count s) p.below p.old x (length b) ++ bodies_with s (contents_end (count s)) p.cut p.rest b)
  pub size : length (saved_file s x b)
      ≡ contents_end (count s + 1 - p.old) + (p.cut - contents_end (count s)) + length b + (length s - p.rest)

module _ (s : List ℕ) (x : ℕ) (b : List ℕ) (p : Place) (sized : Sized s (entries_of s))
    (q : Split s (record { satellite = x; body = b }) (entries_of s) 0 (contents_end (count s)) p (saved_records s x b)) where
  at-below : q.skip ≡ p.below
  at-below = sym (q.below ∙ zero-add q.skip)

  within' : p.below + p.old ≤ count s
  within' = let f = q.fits in let e = at-below in let k = length-entries (count s) (drop 8 s) in omega arith

  -- the entries below, and past
  below≡ : take q.skip (entries_of s) ≡ entries p.below (drop 8 s)
  below≡ = let w = within' in simp at-below (take-entries p.below (count s) (drop 8 s) (omega arith))

  past≡ : drop (q.skip + p.old) (entries_of s) ≡ entries (count s - (p.below + p.old)) (drop (8 + 12 * (p.below + p.old)) s)
  past≡ = simp at-below (drop-entries (p.below + p.old) (count s) (drop 8 s) within' ∙ simp drop-drop)

  many' : length (saved_records s x b) ≡ count s + 1 - p.old
  many' =
      let w = within' in
      ap length q.records ∙ simp (below≡, past≡, length-append, length-map, length-entries) (omega arith)

  mid' : (at : ℕ) → end_of at (entries p.below (drop 8 s)) ≡ at + (p.cut - contents_end (count s))
  mid' at =
      let t = q.to in let e = q.end in
      ap (end_of at) (sym below≡) ∙ end_of-bodies at s _ (take-sized q.skip s (entries_of s) sized)
      ∙ ap (λ (l : List ℕ). at + length l) q.before
      ∙ ap (λ (k : ℕ). at + k) (length-take-le (p.cut - contents_end (count s)) (drop (contents_end (count s)) s) (simp length-drop (omega arith)))

  sized-below : Sized s (entries p.below (drop 8 s))
  sized-below = rw below≡ at (take-sized q.skip s (entries_of s) sized)

  sized_past : Sized s (entries (count s - (p.below + p.old)) (drop (8 + 12 * (p.below + p.old)) s))
  sized_past = rw past≡ at (drop-sized (q.skip + p.old) s (entries_of s) sized)

  contents' : (at : ℕ)
      → contents at (map (record_of s) (take q.skip (entries_of s)) ++ (record { satellite = x; body = b } ∷ map (record_of s) (drop (q.skip + p.old) (entries_of s))))
      ≡ table at (entries p.below (drop 8 s))
      ++ (entry_bytes x (end_of at (entries p.below (drop 8 s))) (length b)
      ++ table (end_of at (entries p.below (drop 8 s)) + length b) (entries (count s - (p.below + p.old)) (drop (8 + 12 * (p.below + p.old)) s)))
  unfolding contents
  contents' at =
      contents-append at (map (record_of s) (take q.skip (entries_of s))) _
      ∙ simp (
        below≡,
        past≡,
        ← end_of-bodies at s (entries p.below (drop 8 s)) sized-below,
        contents-table at s (entries p.below (drop 8 s)) sized-below,
        contents-table (end_of at (entries p.below (drop 8 s)) + length b) s (entries (count s - (p.below + p.old)) (drop (8 + 12 * (p.below + p.old)) s)) sized_past,
      )

  bodies' : bodies (map (record_of s) (take q.skip (entries_of s)) ++ (record { satellite = x; body = b } ∷ map (record_of s) (drop (q.skip + p.old) (entries_of s))))
      ≡ bodies_with s (contents_end (count s)) p.cut p.rest b
  unfolding bodies bodies_with
  bodies' = bodies-append (map (record_of s) (take q.skip (entries_of s))) _ ∙ simp (q.before, q.after)

  file' : saved_file s x b
      ≡ header (count s + 1 - p.old)
      ++ (table_with s (count s) p.below p.old x (length b) ++ bodies_with s (contents_end (count s)) p.cut p.rest b)
  unfolding file_of table_with
  file' =
      let rs = saved_records s x b in
      let m = count s + 1 - p.old in
      ap (λ (k : ℕ). header k ++ (contents (contents_end k) rs ++ bodies rs)) many'
      ∙ ap (λ (l : List Rec). header m ++ (contents (contents_end m) l ++ bodies l)) q.records
      ∙ rw (contents' (contents_end m), bodies')

  size' : length (saved_file s x b)
      ≡ contents_end (count s + 1 - p.old) + (p.cut - contents_end (count s)) + length b + (length s - p.rest)
  unfolding table_with bodies_with
  size' =
      let w = within' in let t = q.to in let e = q.end in
      let k : length (take (p.cut - contents_end (count s)) (drop (contents_end (count s)) s)) ≡ p.cut - contents_end (count s) =
      length-take-le (p.cut - contents_end (count s)) (drop (contents_end (count s)) s) (simp length-drop (omega arith)) in
      ap length file' ∙ simp (length-append, length-header, length-table, length-entries, length-entry_bytes, k, length-drop) (omega arith)

  new-of : New s x b p
  new-of =
      record {
        single = q.single;
        within = within';
        from = q.from;
        to = q.to;
        end = q.end;
        many = many';
        mid = mid' (contents_end (count s + 1 - p.old));
        file = file';
        size = size';
      }

-- the place that a save finds
pub new : (s : List ℕ) (x : ℕ) (b : List ℕ) → Right s → New s x b (place_of x 0 (contents_end (count s)) (entries_of s))
new s x b r =
    new-of s x b _ (chain s (entries_of s) 0 (contents_end (count s)) r.chain).sized
    (split s (record { satellite = x; body = b }) (entries_of s) 0 0 (contents_end (count s)) r.chain)
