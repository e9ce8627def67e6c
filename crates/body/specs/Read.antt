-- A body that is read. Definitions only. Assumes nothing.
use Rattle.std.specs.Prelude.{ℕ, ◌+◌, Bool, cond, ◌&&◌, List, eqb, leb, length, get_or, Result, Err, Option, Some, None}
use Rattle.orbit.specs.declared.propagator.Constants.{Constants}
use Rattle.record.specs.Record.{constants_of}
use Rattle.resonance.specs.declared.state.ResonanceState.{ResonanceState}
use Rattle.body.specs.Floats.{float_at, floats}
use Rattle.body.specs.Body.{numbers_start, state_start, size_of}
use Rattle.body.specs.Examine.{examined}
use Rattle.body.specs.declared.examine.Record.{Record}
use Rattle.body.specs.declared.examine.BodyError.{BodyError}
use Rattle.body.specs.declared.examine.BodyError.TheVariants.{Wrong}

-- a byte of a body, 0 past its end
abbrev pub byte : List ℕ → ℕ → ℕ
byte s i = get_or s i 0

-- the kind of a body
abbrev pub kind_in : List ℕ → ℕ
kind_in s = byte s 0

-- not 16, as far as bytes say: the length is the kind's, there is such a kind and such a flag, and six bytes are zero
unfoldable pub shaped : List ℕ → Bool
shaped s =
    eqb (length s) (size_of (kind_in s))
    && leb (kind_in s) 2
    && leb (byte s 1) 1
    && eqb (byte s 2) 0
    && eqb (byte s 3) 0
    && eqb (byte s 4) 0
    && eqb (byte s 5) 0
    && eqb (byte s 6) 0
    && eqb (byte s 7) 0

-- its constants: of the 34 places those are taken that the kind has
abbrev pub constants_in : List ℕ → Constants
constants_in s = constants_of (kind_in s) (eqb (byte s 1) 1) (floats 34 numbers_start s)

-- its state
abbrev pub state_at : ℕ → List ℕ → ResonanceState
state_at at s = record { t = float_at at s; mean_motion = float_at (at + 8) s; lambda = float_at (at + 16) s }

abbrev pub held_at : ℕ → List ℕ → Option ResonanceState
held_at kind s = cond (eqb kind 0) None (Some (state_at (state_start kind) s))

abbrev pub state_in : List ℕ → Option ResonanceState
state_in s = held_at (kind_in s) s

-- a body: 16, 17, 18, or constants and state together
unfoldable pub body_read : List ℕ → Result Record BodyError
body_read s = cond (shaped s) (examined (constants_in s) (state_in s)) (Err Wrong)
