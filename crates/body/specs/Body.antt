-- The bytes of a body. Definitions only. Assumes nothing.
--
-- offset  bytes  what
-- 0       1      kind: 0 non-resonant, 1 one-day, 2 half-day
-- 1       1      AFSPC flag, 0 or 1
-- 2       6      zero
-- 8       8 each the numbers of the constants by their bits, in the order of crate record: 21, 26 or 34 by the kind
-- 216     24     kind 1: the state's time, mean motion and lambda
-- 280     24     kind 2: the same
--
-- So a body has 176, 240 or 304 bytes. It may start at any address.
use Rattle.std.specs.Prelude.{ℕ, ◌+◌, ◌*◌, Bool, cond, List, [], ◌∷◌, ◌++◌, eqb, take, Float, Option, Some, None}
use Rattle.orbit.specs.declared.propagator.Constants.{Constants}
use Rattle.record.specs.Record.{kind_of, numbers_of}
use Rattle.resonance.specs.declared.state.ResonanceState.{ResonanceState}
use Rattle.body.specs.Floats.{float_bytes}

-- where the numbers begin
abbrev pub numbers_start : ℕ
numbers_start = 8

-- how many numbers the constants of a kind have
abbrev pub number_count : ℕ → ℕ
number_count kind = cond (eqb kind 0) 21 (cond (eqb kind 1) 26 34)

-- where the state of a body begins, or its end where it has none
abbrev pub state_start : ℕ → ℕ
state_start kind = numbers_start + 8 * number_count kind

-- the length of a body: 176, 240 or 304
abbrev pub size_of : ℕ → ℕ
size_of kind = cond (eqb kind 0) (state_start kind) (state_start kind + 24)

-- the longest of them
abbrev pub longest : ℕ
longest = 304

-- ---- written

-- the first eight bytes
abbrev pub leading : ℕ → Bool → List ℕ
leading kind afspc = kind ∷ cond afspc 1 0 ∷ 0 ∷ 0 ∷ 0 ∷ 0 ∷ 0 ∷ 0 ∷ []

abbrev pub state_numbers : Option ResonanceState → List Float
state_numbers None = []
state_numbers (Some z) = z.t ∷ z.mean_motion ∷ z.lambda ∷ []

-- the numbers of a body: those of the constants, and then those of the state
abbrev pub body_numbers : Constants → Option ResonanceState → List Float
body_numbers c s = take (number_count (kind_of c.resonant)) (numbers_of c) ++ state_numbers s

-- the body of constants with none or a state
unfoldable pub body_of : Constants → Option ResonanceState → List ℕ
body_of c s = leading (kind_of c.resonant) c.afspc_compatibility_mode ++ float_bytes (body_numbers c s)
