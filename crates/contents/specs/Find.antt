-- What is found in a store file, and what is listed. Definitions, and the statement of what a search gives. Assumes nothing.
use Rattle.std.specs.Prelude.{ℕ, ◌+◌, ◌≤◌, ◌≡◌, true, cond, List, [], ◌∷◌, length, take, drop, get_or, eqb, ltb, Option, Some, None, Result, Ok, Err, ok_or}
use Rattle.contents.specs.Format.{count, entries_of, contents_right, file_wrong, wrong_number}
use Rattle.contents.specs.Records.{body_in, satellites}
use Rattle.contents.specs.declared.format.Entry.{Entry}
use Rattle.contents.specs.declared.format.FileWrong as F
use Rattle.contents.specs.declared.find.Span.{Span}
use Rattle.contents.specs.declared.find.FindError.{FindError}
use Rattle.contents.specs.declared.find.FindError.TheVariants.{FileWrong, SatelliteMissing}

-- document 01's number of a search that gives nothing
abbrev pub number : FindError → ℕ
number FileWrong = 14
number SatelliteMissing = 15

-- document 01's number of a count, and of a place in the list: 15 past its end; 0 where there is an answer
abbrev pub counted_number : Result ℕ F.FileWrong → ℕ
counted_number (Err e) = wrong_number
counted_number (Ok n) = 0

abbrev pub listed_number : Result ℕ FindError → ℕ
listed_number (Err e) = number e
listed_number (Ok x) = 0

-- where the body of a satellite is, by the first entry that has it
unfoldable pub sought : ℕ → List Entry → Option Span
sought x [] = None
sought x (e ∷ es) = cond (eqb e.satellite x) (Some (record { offset = e.offset; size = e.size })) (sought x es)

-- a satellite in a file: refusal 14, refusal 15, or where its body is
unfoldable pub found_in : List ℕ → ℕ → Result Span FindError
found_in s x = cond (contents_right s) (ok_or (sought x (entries_of s)) SatelliteMissing) (Err FileWrong)

-- the bytes that a search gives
abbrev pub bytes_at : List ℕ → Result Span FindError → Option (List ℕ)
bytes_at s (Err e) = None
bytes_at s (Ok p) = Some (take p.size (drop p.offset s))

-- how many records a file has
unfoldable pub counted_in : List ℕ → Result ℕ F.FileWrong
counted_in s = cond (contents_right s) (Ok (count s)) (Err file_wrong)

-- the satellite of record i of a file
unfoldable pub listed_in : List ℕ → ℕ → Result ℕ FindError
listed_in s i = cond (contents_right s) (cond (ltb i (count s)) (Ok (get_or (satellites s) i 0)) (Err SatelliteMissing)) (Err FileWrong)

-- ---- what is proved of it

-- a search in a file that is right gives the body of the satellite's record, and refusal 15 where it has none
pub record Finds (s : List ℕ) (x : ℕ) : Type 0 where
  pub body : bytes_at s (found_in s x) ≡ body_in s x
  pub missing : body_in s x ≡ None → found_in s x ≡ Err SatelliteMissing

abbrev pub FindsBodies : Type 0
FindsBodies = (s : List ℕ) (x : ℕ) → contents_right s ≡ true → Finds s x

-- where a body was found, the file is right, the body lies inside it, and it is the body of the satellite's record
pub record FoundAt (s : List ℕ) (x o n : ℕ) : Type 0 where
  pub right : contents_right s ≡ true
  pub inside : o + n ≤ length s
  pub body : body_in s x ≡ Some (take n (drop o s))

abbrev pub FoundInside : Type 0
FoundInside = (s : List ℕ) (x o n : ℕ) → found_in s x ≡ Ok (record { offset = o; size = n }) → FoundAt s x o n
