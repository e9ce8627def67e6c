-- The laws of records: what one put among them changes, and a file of records that gives them back. Assumes nothing.
use mathlib.Core.Path.{◌≡◌, refl, sym, ap, ◌∙◌}
use mathlib.Core.Bool.{Bool, true, false, cond}
use mathlib.Core.List.{List, [], ◌∷◌, ◌++◌, append_assoc, map}
use Rattle.std.specs.Prelude.{Some}
use Prim.Native.Nat.{ℕ, zero, suc, ◌+◌, ◌*◌, ◌^◌, ◌≤◌, ◌<◌}
use native.Mathlib.Omega.{arith}
use borrow.Author.Tests.{ltb-true, ltb-false, eqb-true, eqb-false, le-ltb, le-leb, eq-eqb, ne_eqb}
use lib.Dec.{eqb, ltb}
use lib.ListN.{length, take, drop, length-append}
use lib.Seq.{take_at, drop_at, drop-drop, get_or-drop}
use Rattle.contents.specs.LittleEndian.{le, le_bytes}
use Rattle.contents.specs.Format.{magic, version, most, entry_of, entries, follows, chained, count, contents_end, header_right, contents_right, Bytes}
use Rattle.contents.specs.Records.{Rec, record_of, records_of, body_among, put, bodies, contents, entry_bytes, header, file_of}
use Rattle.contents.specs.declared.format.Entry.{Entry}
use Rattle.contents.proofs.Le.{length-le_bytes, le-le_bytes, le-lt}
use Rattle.contents.proofs.format.Laws.{both, follows-parts, magic-number}
use Rattle.contents.proofs.save.Laws.{length-entry_bytes}

-- ---- records with one put among them

pub put-new : (r : Rec) (rs : List Rec) → body_among r.satellite (put r rs) ≡ Some r.body
unfolding body_among put
put-new r [] = simp (eq-eqb r.satellite r.satellite refl)
put-new r (q ∷ qs) = go (ltb r.satellite q.satellite) (eqb r.satellite q.satellite) refl refl (put-new r qs)
  where
    go : (t u : Bool) → ltb r.satellite q.satellite ≡ t → eqb r.satellite q.satellite ≡ u → body_among r.satellite (put r qs) ≡ Some r.body
        → body_among r.satellite (put r (q ∷ qs)) ≡ Some r.body
    go true u h k i = simp (h, eq-eqb r.satellite r.satellite refl)
    go false true h k i = simp (h, k, eq-eqb r.satellite r.satellite refl)
    go false false h k i = simp (h, k, ne_eqb q.satellite r.satellite (λ e. eqb-false _ _ k (sym e)), i)

pub put_other : (r : Rec) (y : ℕ) → (y ≡ r.satellite → ⊥) → (rs : List Rec) → body_among y (put r rs) ≡ body_among y rs
unfolding body_among put
put_other r y n [] = simp (ne_eqb r.satellite y (λ e. n (sym e)))
put_other r y n (q ∷ qs) = go (ltb r.satellite q.satellite) (eqb r.satellite q.satellite) refl refl (put_other r y n qs)
  where
    go : (t u : Bool) → ltb r.satellite q.satellite ≡ t → eqb r.satellite q.satellite ≡ u → body_among y (put r qs) ≡ body_among y qs
        → body_among y (put r (q ∷ qs)) ≡ body_among y (q ∷ qs)
    go true u h k i = simp (h, ne_eqb r.satellite y (λ e. n (sym e)))
    go false true h k i =
        simp (h, k, ne_eqb r.satellite y (λ e. n (sym e)), ne_eqb q.satellite y (λ e. n (sym (eqb-true r.satellite q.satellite k ∙ e))))
    go false false h k i = simp (h, k, i)

-- a record that is there is put in its own place
put_same : (r : Rec) (rs : List Rec) → put r (r ∷ rs) ≡ r ∷ rs
unfolding put
put_same r rs = simp (le-ltb r.satellite r.satellite (omega arith), eq-eqb r.satellite r.satellite refl)

pub put-twice : (r : Rec) (rs : List Rec) → put r (put r rs) ≡ put r rs
unfolding put
put-twice r [] = put_same r []
put-twice r (q ∷ qs) = go (ltb r.satellite q.satellite) (eqb r.satellite q.satellite) refl refl (put-twice r qs)
  where
    go : (t u : Bool) → ltb r.satellite q.satellite ≡ t → eqb r.satellite q.satellite ≡ u → put r (put r qs) ≡ put r qs
        → put r (cond t (r ∷ q ∷ qs) (cond u (r ∷ qs) (q ∷ put r qs))) ≡ cond t (r ∷ q ∷ qs) (cond u (r ∷ qs) (q ∷ put r qs))
    go true u h k i = put_same r (q ∷ qs)
    go false true h k i = put_same r qs
    go false false h k i = simp (h, k, i)

-- ---- a file of records, read back

-- what an entry's bytes say, and what follows them
entry_read : (x at n : ℕ) (s : List ℕ) → x < 2 ^ 32 → at < 2 ^ 32 → n < 2 ^ 32
    → entry_of (entry_bytes x at n ++ s) ≡ record { satellite = x; offset = at; size = n }
unfolding entry_bytes
entry_read x at n s hx ha hn =
    let d₁ : drop 4 (le_bytes 4 x ++ (le_bytes 4 at ++ (le_bytes 4 n ++ s))) ≡ le_bytes 4 at ++ (le_bytes 4 n ++ s) =
    drop_at (le_bytes 4 x) _ 4 (length-le_bytes 4 x) in
    let d₂ : drop 8 (le_bytes 4 x ++ (le_bytes 4 at ++ (le_bytes 4 n ++ s))) ≡ le_bytes 4 n ++ s =
    sym (drop-drop 4 4 (le_bytes 4 x ++ (le_bytes 4 at ++ (le_bytes 4 n ++ s)))) ∙ ap (drop 4) d₁ ∙ drop_at (le_bytes 4 at) _ 4 (length-le_bytes 4 at) in
    simp (append_assoc, d₁, d₂, le-le_bytes 4 x (le_bytes 4 at ++ (le_bytes 4 n ++ s)) hx, le-le_bytes 4 at (le_bytes 4 n ++ s) ha, le-le_bytes 4 n s hn)

-- the entries of records whose bodies stand from `at` on
entries_from : ℕ → List Rec → List Entry
entries_from at [] = []
entries_from at (r ∷ rs) = record { satellite = r.satellite; offset = at; size = length r.body } ∷ entries_from (at + length r.body) rs

-- each satellite fits its four bytes
abbrev pub Small : List Rec → Type 0
Small [] = Unit {0}
Small (r ∷ rs) = (r.satellite < 2 ^ 32) × Small rs

contents-read : (at : ℕ) (rs : List Rec) (s : List ℕ) → Small rs → at + length (bodies rs) < 2 ^ 32
    → entries (length rs) (contents at rs ++ s) ≡ entries_from at rs
unfolding entries contents entries_from bodies
contents-read at [] s h k = refl
contents-read at (r ∷ rs) s h k =
    let m : length (r.body ++ bodies rs) ≡ length r.body + length (bodies rs) = length-append r.body (bodies rs) in
    let ih = contents-read (at + length r.body) rs s h.1 (omega arith) in
    let e = entry_bytes r.satellite at (length r.body) in
    let t = contents (at + length r.body) rs ++ s in
    simp (
      append_assoc,
      entry_read r.satellite at (length r.body) t h.0 (omega arith) (omega arith),
      drop_at e t 12 (length-entry_bytes r.satellite at (length r.body)),
      ih,
    )

-- satellites ascend from `least` on
abbrev pub Ascending : ℕ → List Rec → Type 0
Ascending least [] = Unit {0}
Ascending least (r ∷ rs) = (least ≤ r.satellite) × Ascending (suc r.satellite) rs

chained-read : (end least at : ℕ) (rs : List Rec) → Ascending least rs → end ≡ at + length (bodies rs)
    → chained end least at (entries_from at rs) ≡ true
unfolding chained follows entries_from bodies
chained-read end least at [] h e = eq-eqb at end (omega arith)
chained-read end least at (r ∷ rs) h e =
    let m : length (r.body ++ bodies rs) ≡ length r.body + length (bodies rs) = length-append r.body (bodies rs) in
    simp (le-leb least r.satellite h.0, eq-eqb at at refl, chained-read end (suc r.satellite) (at + length r.body) rs h.1 (omega arith))

records-read : (f : List ℕ) (at : ℕ) (rs : List Rec) → drop at f ≡ bodies rs → map (record_of f) (entries_from at rs) ≡ rs
unfolding entries_from bodies
records-read f at [] h = refl
records-read f at (r ∷ rs) h =
    let t : take (length r.body) (drop at f) ≡ r.body = ap (take (length r.body)) h ∙ take_at r.body (bodies rs) _ refl in
    let d : drop (at + length r.body) f ≡ bodies rs =
    sym (drop-drop (length r.body) at f) ∙ ap (drop (length r.body)) h ∙ drop_at r.body (bodies rs) _ refl in
    simp (t, records-read f (at + length r.body) rs d)

length-contents : (at : ℕ) (rs : List Rec) → length (contents at rs) ≡ 12 * length rs
unfolding contents
length-contents at [] = refl
length-contents at (r ∷ rs) = simp (length-append, length-entry_bytes, length-contents (at + length r.body) rs) (omega arith)

-- ---- the file

module _ (rs : List Rec) where
  after-header : drop 8 (file_of rs) ≡ contents (contents_end (length rs)) rs ++ bodies rs
  unfolding file_of header le_bytes
  after-header = refl

  length-file : length (file_of rs) ≡ contents_end (length rs) + length (bodies rs)
  unfolding file_of header le_bytes
  length-file = simp (length-append, length-contents) (omega arith)

  the-magic : le 4 (file_of rs) ≡ le 4 magic
  unfolding file_of header le
  the-magic = refl

  the-version : le 2 (drop 4 (file_of rs)) ≡ version
  unfolding file_of header le le_bytes
  the-version = refl

  the-count : length rs < 65536 → count (file_of rs) ≡ length rs
  unfolding file_of header le_bytes
  the-count h = le-le_bytes 2 (length rs) _ h

  after-contents : drop (contents_end (length rs)) (file_of rs) ≡ bodies rs
  after-contents =
      sym (drop-drop (12 * length rs) 8 (file_of rs)) ∙ ap (drop (12 * length rs)) after-header
      ∙ drop_at (contents (contents_end (length rs)) rs) (bodies rs) (12 * length rs) (length-contents (contents_end (length rs)) rs)

  module _ (few : length rs ≤ most) (small : Small rs) (fits : length (file_of rs) < 2 ^ 32) where
    the-entries : entries (length rs) (drop 8 (file_of rs)) ≡ entries_from (contents_end (length rs)) rs
    the-entries =
        let m = length-file in
        ap (entries (length rs)) after-header ∙ contents-read (contents_end (length rs)) rs (bodies rs) small (omega arith)

    pub records-file : records_of (file_of rs) ≡ rs
    records-file =
        ap (λ (k : ℕ). map (record_of (file_of rs)) (entries k (drop 8 (file_of rs)))) (the-count (omega arith))
        ∙ ap (map (record_of (file_of rs))) the-entries ∙ records-read (file_of rs) (contents_end (length rs)) rs after-contents

    pub right-file : Ascending 0 rs → contents_right (file_of rs) ≡ true
    unfolding contents_right header_right
    right-file asc =
        let m = length-file in
        simp (
          the-magic,
          magic-number,
          the-version,
          the-count (omega arith),
          le-leb 8 (length (file_of rs)) (omega arith),
          le-leb (length rs) most few,
          le-leb (contents_end (length rs)) (length (file_of rs)) (omega arith),
          the-entries,
          chained-read (length (file_of rs)) 0 (contents_end (length rs)) rs asc length-file,
        )

-- ---- the records of a file that is right, with one put among them

pub put_small : (r : Rec) (rs : List Rec) → r.satellite < 2 ^ 32 → Small rs → Small (put r rs)
unfolding put
put_small r [] h k = (h, tt)
put_small r (q ∷ qs) h k = go (ltb r.satellite q.satellite) (eqb r.satellite q.satellite) (put_small r qs h k.1)
  where
    go : (t u : Bool) → Small (put r qs) → Small (cond t (r ∷ q ∷ qs) (cond u (r ∷ qs) (q ∷ put r qs)))
    go true u i = (h, k)
    go false true i = (h, k.1)
    go false false i = (k.0, i)

pub put-ascending : (r : Rec) (rs : List Rec) (least : ℕ) → least ≤ r.satellite → Ascending least rs → Ascending least (put r rs)
unfolding put
put-ascending r [] least h k = (h, tt)
put-ascending r (q ∷ qs) least h k =
    go (ltb r.satellite q.satellite) (eqb r.satellite q.satellite) refl refl (λ i. put-ascending r qs (suc q.satellite) i k.1)
  where
    go : (t u : Bool) → ltb r.satellite q.satellite ≡ t → eqb r.satellite q.satellite ≡ u
        → (suc q.satellite ≤ r.satellite → Ascending (suc q.satellite) (put r qs))
        → Ascending least (cond t (r ∷ q ∷ qs) (cond u (r ∷ qs) (q ∷ put r qs)))
    go true u a b i = let l : r.satellite < q.satellite = ltb-true _ _ a in (h, (omega arith, k.1))
    go false true a b i =
        let e : r.satellite ≡ q.satellite = eqb-true _ _ b in
        (h, rw e k.1)
    go false false a b i =
        let l : q.satellite ≤ r.satellite = ltb-false _ _ a in
        let n : ¬ (r.satellite ≡ q.satellite) = eqb-false _ _ b in
        (k.0, i (omega arith))

-- the satellites of a file fit and ascend
pub entries-small : (s : List ℕ) → Bytes s → (f : List ℕ) (n : ℕ) → Small (map (record_of f) (entries n s))
unfolding entries
entries-small s h f zero = tt
entries-small s h f (suc n) = (le-lt 4 s h, entries-small (drop 12 s) (λ i. rw get_or-drop (h (12 + i))) f n)

pub chained-ascending : (f : List ℕ) (end least at : ℕ) (es : List Entry) → chained end least at es ≡ true → Ascending least (map (record_of f) es)
unfolding chained
chained-ascending f end least at [] h = tt
chained-ascending f end least at (e ∷ es) h =
    let p = both (follows least at e) (chained end (suc e.satellite) (at + e.size) es) h in
    ((follows-parts least at e p.0).0, chained-ascending f end (suc e.satellite) (at + e.size) es p.1)
