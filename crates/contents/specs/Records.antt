-- A store file as a list of records, read from the file and written to it. Definitions only. Assumes nothing.
use Rattle.std.specs.Prelude.{ℕ, ◌+◌, cond, List, [], ◌∷◌, ◌++◌, map, length, take, drop, eqb, ltb, Option, Some, None}
use Rattle.contents.specs.LittleEndian.{le_bytes}
use Rattle.contents.specs.Format.{magic, version, contents_end, entries_of}
use Rattle.contents.specs.declared.format.Entry.{Entry}

-- a record: a satellite and its body
pub record Rec : Type 0 where
  pub satellite : ℕ
  pub body : List ℕ

-- ---- read

-- the record of an entry
abbrev pub record_of : List ℕ → Entry → Rec
record_of s e = record { satellite = e.satellite; body = take e.size (drop e.offset s) }

-- the records of a file
abbrev pub records_of : List ℕ → List Rec
records_of s = map (record_of s) (entries_of s)

-- the body of a satellite, by the first record that has it
unfoldable pub body_among : ℕ → List Rec → Option (List ℕ)
body_among x [] = None
body_among x (r ∷ rs) = cond (eqb r.satellite x) (Some r.body) (body_among x rs)

-- the body of a satellite in a file
abbrev pub body_in : List ℕ → ℕ → Option (List ℕ)
body_in s x = body_among x (records_of s)

-- the satellites of a file, in their order
abbrev pub satellites : List ℕ → List ℕ
satellites s = map (λ (r : Rec). r.satellite) (records_of s)

-- ---- changed

-- records with one added in its ascending place, or replaced
unfoldable pub put : Rec → List Rec → List Rec
put r [] = r ∷ []
put r (q ∷ qs) =
    cond (ltb r.satellite q.satellite) (r ∷ q ∷ qs)
    (cond (eqb r.satellite q.satellite) (r ∷ qs) (q ∷ put r qs))

-- ---- written

-- the header of a file of n records
unfoldable pub header : ℕ → List ℕ
header n = magic ++ (le_bytes 2 version ++ le_bytes 2 n)

-- an entry's bytes: satellite, offset, length
unfoldable pub entry_bytes : ℕ → ℕ → ℕ → List ℕ
entry_bytes x at n = le_bytes 4 x ++ (le_bytes 4 at ++ le_bytes 4 n)

-- an entry for each record, the first body at `at` and each next where the last ends
unfoldable pub contents : ℕ → List Rec → List ℕ
contents at [] = []
contents at (r ∷ rs) = entry_bytes r.satellite at (length r.body) ++ contents (at + length r.body) rs

-- the bodies, one after another
unfoldable pub bodies : List Rec → List ℕ
bodies [] = []
bodies (r ∷ rs) = r.body ++ bodies rs

-- the file of some records
unfoldable pub file_of : List Rec → List ℕ
file_of rs = header (length rs) ++ (contents (contents_end (length rs)) rs ++ bodies rs)
