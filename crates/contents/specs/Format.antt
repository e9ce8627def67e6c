-- The header and the contents of a store file. Definitions only. Assumes nothing.
--
-- offset  bytes  what
-- 0       4      `magic`, 4F 52 42 54
-- 4       2      `version`, 1
-- 6       2      count of entries, 0 to 128
-- 8       12     an entry for each record: satellite, offset of its body, length of its body, 4 bytes each
--                the bodies, one after another, to the end of the file
--
-- All numbers have their lowest byte first.
use Rattle.std.specs.Prelude.{◌≡◌, true, ℕ, zero, suc, ◌+◌, ◌*◌, ◌<◌, Bool, ◌&&◌, List, [], ◌∷◌, length, drop, get_or, eqb, leb}
use Rattle.contents.specs.LittleEndian.{le}
use Rattle.contents.specs.declared.format.Entry.{Entry}
use Rattle.contents.specs.declared.format.FileWrong.{FileWrong}

-- the four bytes that a file begins with
abbrev pub magic : List ℕ
magic = 0x4F ∷ 0x52 ∷ 0x42 ∷ 0x54 ∷ []

-- the version of the files that are read and written
abbrev pub version : ℕ
version = 1

-- the most records that a file has
abbrev pub most : ℕ
most = 128

-- the count that the header gives
abbrev pub count : List ℕ → ℕ
count s = le 2 (drop 6 s)

-- the header is right: eight bytes at least, `magic`, `version`, and a count of at most `most`
unfoldable pub header_right : List ℕ → Bool
header_right s =
    leb 8 (length s)
    && (eqb (le 4 s) (le 4 magic)
    && (eqb (le 2 (drop 4 s)) version
    && leb (count s) most))

-- where the contents of n entries end
abbrev pub contents_end : ℕ → ℕ
contents_end n = 8 + 12 * n

-- the entry at the front of a list of bytes
abbrev pub entry_of : List ℕ → Entry
entry_of s = record { satellite = le 4 s; offset = le 4 (drop 4 s); size = le 4 (drop 8 s) }

-- the n entries at the front of a list of bytes
unfoldable pub entries : ℕ → List ℕ → List Entry
entries zero s = []
entries (suc n) s = entry_of s ∷ entries n (drop 12 s)

-- the entries of a file
abbrev pub entries_of : List ℕ → List Entry
entries_of s = entries (count s) (drop 8 s)

-- an entry may follow: its satellite is at least `least`, and its body starts at `at`
unfoldable pub follows : ℕ → ℕ → Entry → Bool
follows least at e = leb least e.satellite && eqb e.offset at

-- each satellite is at least `least` and above the one before it, the first body starts at `at` and each next where the last ends, and the last ends
-- at `end`
unfoldable pub chained : ℕ → ℕ → ℕ → List Entry → Bool
chained end least at [] = eqb at end
chained end least at (e ∷ es) = follows least at e && chained end (suc e.satellite) (at + e.size) es

-- not refusal 14: header and contents are right. The first body starts where the contents end, and the file ends with the last body, or with the
-- contents if there is none; lengths are not judged
unfoldable pub contents_right : List ℕ → Bool
contents_right s =
    header_right s
    && (leb (contents_end (count s)) (length s)
    && chained (length s) 0 (contents_end (count s)) (entries_of s))

-- f is the file s, which is right, and n the count of its entries
pub record IsContents (s f : List ℕ) (n : ℕ) : Type 0 where
  pub file : f ≡ s
  pub count : n ≡ count s
  pub right : contents_right s ≡ true

-- refusal 14, and document 01's number of it
abbrev pub file_wrong : FileWrong
file_wrong = record {}

abbrev pub wrong_number : ℕ
wrong_number = 14

-- each element of a list is a byte
abbrev pub Bytes : List ℕ → Type 0
Bytes s = (i : ℕ) → get_or s i 0 < 256
