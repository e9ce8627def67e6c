-- A time as a direction and a number of steps of 720 minutes: where a state may stand, what may be asked of it, and what an ask at a time plans. Definitions
-- only. Assumes nothing.
use Rattle.std.specs.Prelude.{ℕ, zero, suc, ◌-◌, ◌*◌, ◌/◌, ◌%◌, Bool, true, false, not, ◌&&◌, cond, ◌||◌, eqb, pos, Float, Result, Ok, Err}
use Rattle.std.specs.Bool.{beq}
use Rattle.std.specs.Float.{nan, inf, fin, binary64}
use Rattle.std.specs.Float.Ieee.{up, down, round, lt}
use Rattle.std.specs.Float.Ieee.Scale.{finite}
use Rattle.std.specs.declared.cmp.Ordering.{Ordering}
use Rattle.std.specs.declared.cmp.Ordering.TheVariants.{Less, Equal, Greater}
use Rattle.floats.specs.Rounded.{◌⊖◌, ⊝◌, dec}
use Rattle.floats.specs.Value.{negative, is_zero, at_most, shorter}
use Rattle.times.specs.declared.time.Fault.{Fault}
use Rattle.times.specs.declared.time.Fault.TheVariants.{TimeNotFinite, TimeBeyondLimit, StateMisplaced, NotOnward}

-- 720·2^20 minutes
abbrev pub limit : ℕ
limit = 754974720

-- the whole part of |x| / 720
abbrev pub number : Float → ℕ
number nan = 0
number (inf s) = 0
number (fin s m e) = m * up e / (720 * down e)

-- |x| is a multiple of 720
abbrev pub multiple : Float → Bool
multiple nan = false
multiple (inf s) = false
multiple (fin s m e) = eqb (m * up e % (720 * down e)) 0

-- +0.0
abbrev pub zero_time : Float
zero_time = fin false 0 (pos 0)

-- the time of a state after k steps, back or forward, from the fresh one: ±720 k, and +0.0 at 0
abbrev pub time_of : Bool → ℕ → Float
time_of b zero = zero_time
time_of b (suc k) = round binary64 b (720 * suc k) 1

-- an ask at t > 0 steps forward, any other back
unfoldable pub back : Float → Bool
back t = not (lt zero_time t)

-- ---- refusals 1, 2, 6, 7

-- 6 is given exactly if this fails: the state's time is a multiple of 720, within limit 2, and not -0.0
abbrev pub placed : Float → Bool
placed s = multiple s && at_most limit s && not (negative s && is_zero s)

-- the state's time is 0, or its sign bit is t's
abbrev pub same_way : Float → Float → Bool
same_way s t = is_zero s || beq (negative s) (negative t)

-- |t| is not below |state's time|
abbrev pub not_earlier : Float → Float → Bool
not_earlier s t = not (shorter t s)

-- 7 is given exactly if this fails
abbrev pub onward : Float → Float → Bool
onward s t = same_way s t && not_earlier s t

-- the refusal of an ask at t, where the state's time is s, among those that the two times decide alone: in the table's order
unfoldable pub refusal : Float → Float → Result (Unit {0}) Fault
refusal s t =
    cond (finite t)
    (cond (at_most limit t)
    (cond (placed s)
    (cond (onward s t)
    (Ok tt)
    (Err NotOnward))
    (Err StateMisplaced))
    (Err TimeBeyondLimit))
    (Err TimeNotFinite)

-- ---- the plan of an ask

-- a refusal; or so many steps, back or forward
pub data Plan : Type 0 where
  refuse : Fault → Plan
  go : Bool → ℕ → Plan

abbrev pub planned : Result (Unit {0}) Fault → Bool → ℕ → Plan
planned (Ok _) b k = go b k
planned (Err f) b k = refuse f

-- an ask at t of a state at s steps in t's direction, to the last multiple of 720 not beyond t
unfoldable pub plan : Float → Float → Plan
plan s t = planned (refusal s t) (back t) (number t - number s)

-- ---- the test of the loop, by floats

-- Δ: 720 minutes, with the sign of the direction
unfoldable pub delta : Bool → Float
delta b = cond b (⊝ dec 720 0) (dec 720 0)

-- less, equal or greater; unordered counts as equal
abbrev pub ordering : Float → Float → Ordering
ordering x y = cond (lt x y) Less (cond (lt y x) Greater Equal)

-- the loop goes on: not where t - Δ is less than the state's time, or greater going back
abbrev pub goes_on : Bool → Ordering → Bool
goes_on b Less = b
goes_on b Equal = true
goes_on b Greater = not b

unfoldable pub due : Bool → Float → Float → Bool
due b s t = goes_on b (ordering (t ⊖ delta b) s)
