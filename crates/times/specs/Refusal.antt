-- Document 01's number of each refusal. Definitions only. Assumes nothing.
use Rattle.std.specs.Prelude.{ℕ, Result, Ok, Err}
use Rattle.times.specs.declared.time.Fault.{Fault}
use Rattle.times.specs.declared.time.Fault.TheVariants.{TimeNotFinite, TimeBeyondLimit, NumberNotFinite, OrbitNonResonant, NoState, StateMisplaced, NotOnward, RatesRefused}

abbrev pub number : Fault → ℕ
number TimeNotFinite = 1
number TimeBeyondLimit = 2
number NumberNotFinite = 3
number OrbitNonResonant = 4
number NoState = 5
number StateMisplaced = 6
number NotOnward = 7
number RatesRefused = 8

-- of the check of two times: 0 where it passes
abbrev pub of_check : Result (Unit {0}) Fault → ℕ
of_check (Ok _) = 0
of_check (Err f) = number f
