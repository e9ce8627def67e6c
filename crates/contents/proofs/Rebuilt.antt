-- A file that is right is the file of its records: header, contents and bodies are those bytes. Assumes nothing.
use mathlib.Core.Path.{◌≡◌, refl, sym, ap, ◌∙◌}
use mathlib.Core.Bool.{true}
use mathlib.Core.List.{List, [], ◌∷◌, ◌++◌}
use Prim.Native.Nat.{ℕ, zero, suc, ◌+◌, ◌*◌, ◌/◌, ◌%◌, ◌≤◌}
use native.Mathlib.Omega.{arith}
use lib.ListN.{length, take, drop, length-map, length-drop, take-append-drop}
use lib.Seq.{take-add, drop-drop, get_or-drop}
use Rattle.contents.specs.LittleEndian.{le, le_bytes}
use Rattle.contents.specs.Format.{magic, version, entry_of, entries, chained, count, contents_end, entries_of, Bytes}
use Rattle.contents.specs.Records.{records_of, bodies, contents, entry_bytes, header, file_of}
use Rattle.contents.specs.Table.{table}
use Rattle.contents.specs.Kept.{Rebuilds}
use Rattle.contents.proofs.format.Laws.{right, headed, Headed}
use Rattle.contents.proofs.save.Laws.{length-entries}
use Rattle.contents.proofs.save.Split.{chain, tests}
use Rattle.contents.proofs.save.New.{contents-table}

bytes_drop : (k : ℕ) (s : List ℕ) → Bytes s → Bytes (drop k s)
bytes_drop k s h = λ i. rw get_or-drop (h (k + i))

-- bytes are the bytes of their number
le_bytes-le : (n : ℕ) (s : List ℕ) → Bytes s → n ≤ length s → le_bytes n (le n s) ≡ take n s
unfolding le le_bytes
le_bytes-le zero s h k = refl
le_bytes-le (suc n) [] h k = absurd (omega arith)
le_bytes-le (suc n) (b ∷ s) h k =
    let l = h 0 in
    let m : (b + 256 * le n s) % 256 ≡ b = omega arith in
    let d : (b + 256 * le n s) / 256 ≡ le n s = omega arith in
    simp (m, d, le_bytes-le n s (λ i. h (suc i)) (omega arith))

-- the same at an offset
at_offset : (n at : ℕ) (s : List ℕ) → Bytes s → at + n ≤ length s → le_bytes n (le n (drop at s)) ≡ take n (drop at s)
at_offset n at s h k = le_bytes-le n (drop at s) (bytes_drop at s h) (simp length-drop (omega arith))

take-twelve : (s : List ℕ) → take 12 s ≡ take 4 s ++ (take 4 (drop 4 s) ++ take 4 (drop 8 s))
take-twelve s = take-add 4 8 s ∙ ap (λ (l : List ℕ). take 4 s ++ l) (take-add 4 4 (drop 4 s) ∙ simp drop-drop)

take-eight : (s : List ℕ) → take 8 s ≡ take 4 s ++ (take 2 (drop 4 s) ++ take 2 (drop 6 s))
take-eight s = take-add 4 4 s ∙ ap (λ (l : List ℕ). take 4 s ++ l) (take-add 2 2 (drop 4 s) ∙ simp drop-drop)

entry-back : (s : List ℕ) → Bytes s → 12 ≤ length s → entry_bytes (le 4 s) (le 4 (drop 4 s)) (le 4 (drop 8 s)) ≡ take 12 s
unfolding entry_bytes
entry-back s h k =
    simp (le_bytes-le 4 s h (omega arith), at_offset 4 4 s h (omega arith), at_offset 4 8 s h (omega arith)) (sym (take-twelve s))

magic-back : le_bytes 4 (le 4 magic) ≡ magic
unfolding le le_bytes
magic-back = refl

header-back : (s : List ℕ) → Bytes s → Headed s → header (count s) ≡ take 8 s
unfolding header
header-back s h k =
    let l = k.long in
    let m : magic ≡ take 4 s = sym magic-back ∙ ap (le_bytes 4) (sym k.magical) ∙ le_bytes-le 4 s h (omega arith) in
    let v : le_bytes 2 version ≡ take 2 (drop 4 s) = ap (le_bytes 2) (sym k.versioned) ∙ at_offset 2 4 s h (omega arith) in
    let c : le_bytes 2 (count s) ≡ take 2 (drop 6 s) = at_offset 2 6 s h (omega arith) in
    ap (λ (p : List ℕ). p ++ (le_bytes 2 version ++ le_bytes 2 (count s))) m
    ∙ ap (λ (p : List ℕ). take 4 s ++ (p ++ le_bytes 2 (count s))) v
    ∙ ap (λ (p : List ℕ). take 4 s ++ (take 2 (drop 4 s) ++ p)) c
    ∙ sym (take-eight s)

table-back : (n : ℕ) (s : List ℕ) (end least at : ℕ) → Bytes s → 12 * n ≤ length s → chained end least at (entries n s) ≡ true
    → table at (entries n s) ≡ take (12 * n) s
unfolding entries table
table-back zero s end least at h k c = refl
table-back (suc n) s end least at h k c =
    let t = tests end least at (entry_of s) (entries n (drop 12 s)) c in
    let m : 12 + 12 * n ≡ 12 * suc n = omega arith in
    ap (λ (o : ℕ). entry_bytes (le 4 s) o (le 4 (drop 8 s)) ++ table (at + le 4 (drop 8 s)) (entries n (drop 12 s))) (sym t.0)
    ∙ ap (λ (p : List ℕ). p ++ table (at + le 4 (drop 8 s)) (entries n (drop 12 s))) (entry-back s h (omega arith))
    ∙ ap (λ (p : List ℕ). take 12 s ++ p)
    (table-back n (drop 12 s) end (suc (le 4 s)) (at + le 4 (drop 8 s)) (bytes_drop 12 s h) (simp length-drop (omega arith)) t.1)
    ∙ sym (take-add 12 (12 * n) s)
    ∙ ap (λ (j : ℕ). take j s) m

pub rebuilds : Rebuilds
unfolding file_of
rebuilds s h k =
    let r = right s k in
    let n = count s in
    let es = entries_of s in
    let c = chain s es 0 (contents_end n) r.chain in
    let i = r.inside in
    let e : length (records_of s) ≡ n = simp (length-map, length-entries) in
    let t : contents (contents_end n) (records_of s) ≡ take (12 * n) (drop 8 s) =
    contents-table (contents_end n) s es c.sized
    ∙ table-back n (drop 8 s) (length s) 0 (contents_end n) (bytes_drop 8 s h) (simp length-drop (omega arith)) r.chain in
    ap (λ (j : ℕ). header j ++ (contents (contents_end j) (records_of s) ++ bodies (records_of s))) e
    ∙ ap (λ (p : List ℕ). p ++ (contents (contents_end n) (records_of s) ++ bodies (records_of s))) (header-back s h (headed s r.head))
    ∙ ap (λ (p : List ℕ). take 8 s ++ (p ++ bodies (records_of s))) t
    ∙ ap (λ (p : List ℕ). take 8 s ++ (take (12 * n) (drop 8 s) ++ p)) (c.whole ∙ sym (drop-drop (12 * n) 8 s))
    ∙ ap (λ (p : List ℕ). take 8 s ++ p) (take-append-drop (12 * n) (drop 8 s))
    ∙ take-append-drop 8 s
