-- The file that a save writes, and its answer. Definitions only. Assumes nothing.
use Rattle.std.specs.Prelude.{ℕ, ◌^◌, cond, List, ◌++◌, length, drop, ltb, leb, Result, Ok, Err}
use Rattle.contents.specs.Format.{most, contents_right}
use Rattle.contents.specs.Records.{Rec, records_of, put, file_of}
use Rattle.contents.specs.declared.save.SaveError.{SaveError}
use Rattle.contents.specs.declared.save.SaveError.TheVariants.{FileWrong, StoreFull, OutputShort}

-- document 01's number of a save that is refused
abbrev pub number : SaveError → ℕ
number FileWrong = 14
number StoreFull = 20
number OutputShort = 19

-- the records of an old file with one added or replaced
abbrev pub saved_records : List ℕ → ℕ → List ℕ → List Rec
saved_records s x b = put (record { satellite = x; body = b }) (records_of s)

-- their file
abbrev pub saved_file : List ℕ → ℕ → List ℕ → List ℕ
saved_file s x b = file_of (saved_records s x b)

-- a new file of n bytes: below 2 ^ 32 bytes, or refusal 20; no longer than the output, or refusal 19
abbrev pub fitted : ℕ → ℕ → Result ℕ SaveError
fitted n room = cond (ltb n (2 ^ 32)) (cond (leb n room) (Ok n) (Err OutputShort)) (Err StoreFull)

-- the answer of a save into `room` bytes: refusals 14, 20 and 19, or the length of the new file
unfoldable pub saved : List ℕ → ℕ → List ℕ → ℕ → Result ℕ SaveError
saved s x b room =
    cond (contents_right s)
    (cond (leb (length (saved_records s x b)) most) (fitted (length (saved_file s x b)) room) (Err StoreFull))
    (Err FileWrong)

-- the output after an answer: as it was after a refusal, else the new file and what stood past its length
abbrev pub output_of : Result ℕ SaveError → List ℕ → List ℕ → List ℕ
output_of (Err e) new out = out
output_of (Ok n) new out = new ++ drop n out
