-- A restore: refusals 14 and 15 of the file, then 16, 17 and 18 of the one body. Definitions only. Assumes nothing.
use Rattle.std.specs.Prelude.{ℕ, List, take, drop, Result, Ok, Err}
use Rattle.contents.specs.Find.{found_in}
use Rattle.contents.specs.declared.find.Span.{Span}
use Rattle.contents.specs.declared.find.FindError.{FindError}
use Rattle.contents.specs.declared.find.FindError.TheVariants as F
use Rattle.body.specs.Read.{body_read}
use Rattle.body.specs.declared.examine.Record.{Record}
use Rattle.body.specs.declared.examine.BodyError.{BodyError}
use Rattle.body.specs.declared.examine.BodyError.TheVariants as B
use Rattle.store.specs.declared.restore.RestoreError.{RestoreError}
use Rattle.store.specs.declared.restore.RestoreError.TheVariants.{FileWrong, SatelliteMissing, BodyWrong, NumberNotFinite, StateWrong}

-- document 01's number of an answer: 0 where constants and state come back
abbrev pub number : Result Record RestoreError → ℕ
number (Err FileWrong) = 14
number (Err SatelliteMissing) = 15
number (Err BodyWrong) = 16
number (Err NumberNotFinite) = 17
number (Err (StateWrong k)) = 18
number (Ok r) = 0

-- the steps of the replay, those before a refusal too
abbrev pub steps_of : Result Record RestoreError → ℕ
steps_of (Err FileWrong) = 0
steps_of (Err SatelliteMissing) = 0
steps_of (Err BodyWrong) = 0
steps_of (Err NumberNotFinite) = 0
steps_of (Err (StateWrong k)) = k
steps_of (Ok r) = r.steps

-- 14 and 15, which the file's half of a restore gives
abbrev pub of_file : FindError → RestoreError
of_file F.FileWrong = FileWrong
of_file F.SatelliteMissing = SatelliteMissing

-- 16, 17 and 18, which the body gives
abbrev pub of_body : BodyError → RestoreError
of_body B.Wrong = BodyWrong
of_body B.NumberNotFinite = NumberNotFinite
of_body (B.StateWrong k) = StateWrong k

abbrev pub of_record : Result Record BodyError → Result Record RestoreError
of_record (Err e) = Err (of_body e)
of_record (Ok r) = Ok r

abbrev pub restored_at : List ℕ → Result Span FindError → Result Record RestoreError
restored_at s (Err e) = Err (of_file e)
restored_at s (Ok p) = of_record (body_read (take p.size (drop p.offset s)))

-- a restore of satellite x from the file s
unfoldable pub restored_from : List ℕ → ℕ → Result Record RestoreError
restored_from s x = restored_at s (found_in s x)
