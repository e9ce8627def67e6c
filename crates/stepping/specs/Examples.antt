-- The marked examples (a) to (l) of document 01, as one table with a single statement. Assumes nothing.
use Rattle.std.specs.Prelude.{ℕ, ◌+◌, ◌≡◌, Bool, true, false, List, [], ◌∷◌, Float}
use Rattle.floats.specs.Rounded.{◌⊖◌, ⊝◌, dec}
use Rattle.orbit.specs.Class.{class_of}
use Rattle.orbit.specs.declared.class.Class.{Class}
use Rattle.orbit.specs.declared.class.Class.TheVariants.{NonResonant, HalfDay}
use Rattle.elements.specs.Elements.{in_range}
use Rattle.rates.specs.declared.Integrator.{Integrator}
use Rattle.resonance.specs.declared.state.ResonanceState.{ResonanceState}
use Rattle.resonance.specs.Refusal.{of_advance}
use Rattle.times.specs.Time.{number, time_of}
use Rattle.resonance.specs.Advance.{steps, taken, advance_of}

-- what an example shows: a refusal by its number; or so many steps, back or not, with the rest of the time
pub data Shown : Type 0 where
  refused : ℕ → Shown
  makes : Bool → ℕ → Float → Shown

-- an ask at a time of a state at a time, and what it shows; the class of a mean motion and an eccentricity; whether a p31 is in range
pub data Example : Type 0 where
  asks : Float → Float → Shown → Example
  classes : Float → Float → Class → Example
  ranges : Float → Bool → Example

-- the fresh state: (a) 0, (b) 719, (c) 720, (d) 1440, (e) -720, (f) the limit and one above it; a state at 720: (g) 1000 and 800, (h) 719, (i) -0.0;
-- (j) n = 0.0034906585; (k) n = 8.26e-3, e = 0.5; (l) p31 = -0.001 and 1.0
abbrev pub table : List Example
table =
    asks (dec 0 0) (dec 0 0) (makes true 0 (dec 0 0))
    ∷ asks (dec 0 0) (dec 719 0) (makes false 0 (dec 719 0))
    ∷ asks (dec 0 0) (dec 720 0) (makes false 1 (dec 0 0))
    ∷ asks (dec 0 0) (dec 1440 0) (makes false 2 (dec 0 0))
    ∷ asks (dec 0 0) (⊝ dec 720 0) (makes true 1 (dec 0 0))
    ∷ asks (dec 0 0) (dec 754974720 0) (makes false 1048576 (dec 0 0))
    ∷ asks (dec 0 0) (dec 754974721 0) (refused 2)
    ∷ asks (dec 720 0) (dec 1000 0) (makes false 0 (dec 280 0))
    ∷ asks (dec 720 0) (dec 800 0) (makes false 0 (dec 80 0))
    ∷ asks (dec 720 0) (dec 719 0) (refused 7)
    ∷ asks (dec 720 0) (⊝ dec 0 0) (refused 7)
    ∷ classes (dec 34906585 10) (dec 5 1) NonResonant
    ∷ classes (dec 826 5) (dec 5 1) HalfDay
    ∷ ranges (⊝ dec 1 3) true
    ∷ ranges (dec 1 0) false
    ∷ []

-- the stepping from s to t is refused with the number; or is so many defined steps, refused 8 where one of them is, and leaves the rest
abbrev pub Shows : Integrator → ResonanceState → Float → Shown → Type 0
Shows c s t (refused r) = of_advance (advance_of c s t) ≡ r
Shows c s t (makes b k rest) = (advance_of c s t ≡ taken s k (steps c b k s)) × (t ⊖ time_of b (number s.t + k) ≡ rest)

abbrev pub state_at : Float → Float → Float → ResonanceState
state_at t n l = record { t = t; mean_motion = n; lambda = l }

abbrev pub Holds : Integrator → Float → Float → Example → Type 0
Holds c n l (asks s t e) = Shows c (state_at s n l) t e
Holds c n l (classes n' e k) = class_of n' e ≡ k
Holds c n l (ranges p31 b) = in_range p31 ≡ b

abbrev pub Each : (Example → Type 0) → List Example → Type 0
Each P [] = Unit {0}
Each P (r ∷ rs) = P r × Each P rs

-- for every integrator, and every mean motion and longitude of the state
abbrev pub Examples : Type 0
Examples = (c : Integrator) (n l : Float) → Each (Holds c n l) table
