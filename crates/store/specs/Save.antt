-- A save: its answer, in the order 4, 5, 14, 16, 17, 18, 20, 19, and the file that it writes. Definitions only. Assumes nothing.
use Rattle.std.specs.Prelude.{ℕ, Bool, true, false, cond, not, ◌&&◌, is_some, List, ◌++◌, drop, Result, Ok, Err, Option}
use Rattle.orbit.specs.declared.propagator.Resonant.{Resonant}
use Rattle.orbit.specs.declared.propagator.Resonant.TheVariants.{No, Yes}
use Rattle.orbit.specs.declared.propagator.Constants.{Constants}
use Rattle.resonance.specs.declared.state.ResonanceState.{ResonanceState}
use Rattle.contents.specs.Format.{contents_right}
use Rattle.contents.specs.Save.{saved, saved_file}
use Rattle.contents.specs.declared.save.SaveError.{SaveError}
use Rattle.contents.specs.declared.save.SaveError.TheVariants as S
use Rattle.body.specs.Body.{body_of}
use Rattle.body.specs.Examine.{examined}
use Rattle.body.specs.declared.examine.Record.{Record}
use Rattle.body.specs.declared.examine.BodyError.{BodyError}
use Rattle.body.specs.declared.examine.BodyError.TheVariants as B
use Rattle.store.specs.declared.save.StoreError.{StoreError}
use Rattle.store.specs.declared.save.StoreError.TheVariants.{OrbitNonResonant, NoState, FileWrong, BodyWrong, NumberNotFinite, StateWrong, StoreFull, OutputShort}

-- document 01's number of an answer: 0 where the new file was written
abbrev pub number : Result ℕ StoreError → ℕ
number (Err OrbitNonResonant) = 4
number (Err NoState) = 5
number (Err FileWrong) = 14
number (Err BodyWrong) = 16
number (Err NumberNotFinite) = 17
number (Err StateWrong) = 18
number (Err StoreFull) = 20
number (Err OutputShort) = 19
number (Ok n) = 0

abbrev pub is_resonant : Resonant → Bool
is_resonant (No a0) = false
is_resonant (Yes lambda-0 lambda-dot-0 theta_0 r) = true

-- 20 and 19, which the file's half of a save gives
abbrev pub of_file : SaveError → StoreError
of_file S.FileWrong = FileWrong
of_file S.StoreFull = StoreFull
of_file S.OutputShort = OutputShort

abbrev pub of_saved : Result ℕ SaveError → Result ℕ StoreError
of_saved (Err e) = Err (of_file e)
of_saved (Ok n) = Ok n

-- 16, 17, 18 of the record, before them
abbrev pub of_body : BodyError → StoreError
of_body B.Wrong = BodyWrong
of_body B.NumberNotFinite = NumberNotFinite
of_body (B.StateWrong k) = StateWrong

abbrev pub of_examined : Result Record BodyError → Result ℕ StoreError → Result ℕ StoreError
of_examined (Err e) r = Err (of_body e)
of_examined (Ok b) r = r

-- the answer of a save into `room` bytes
unfoldable pub stored : List ℕ → ℕ → Constants → Option ResonanceState → ℕ → Result ℕ StoreError
stored s x c z room =
    cond (is_some z && not (is_resonant c.resonant)) (Err OrbitNonResonant)
    (cond (not (is_some z) && is_resonant c.resonant) (Err NoState)
    (cond (not (contents_right s)) (Err FileWrong)
    (of_examined (examined c z) (of_saved (saved s x (body_of c z) room)))))

-- the new file
abbrev pub stored_file : List ℕ → ℕ → Constants → Option ResonanceState → List ℕ
stored_file s x c z = saved_file s x (body_of c z)

-- the output after an answer: as it was after a refusal, else the new file and what stood past its length
abbrev pub output_after : Result ℕ StoreError → List ℕ → List ℕ → List ℕ
output_after (Err e) new out = out
output_after (Ok n) new out = new ++ drop n out
