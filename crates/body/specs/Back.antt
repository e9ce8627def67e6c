-- What was written is read back. The statements. Assumes nothing.
use Rattle.std.specs.Prelude.{◌≡◌, List, [], ◌∷◌, T, Float, Option, Some, None}
use Rattle.std.specs.Float.{binary64}
use Rattle.std.specs.Float.Ieee.{fits}
use Rattle.orbit.specs.declared.propagator.Resonant.{Resonant}
use Rattle.orbit.specs.declared.propagator.Resonant.TheVariants.{No, Yes}
use Rattle.orbit.specs.declared.propagator.Constants.{Constants}
use Rattle.resonance.specs.declared.state.ResonanceState.{ResonanceState}
use Rattle.body.specs.Body.{body_numbers, body_of}
use Rattle.body.specs.Examine.{examined}
use Rattle.body.specs.Read.{body_read}

-- floats that a machine holds: of the format
abbrev pub Held : List Float → Type 0
Held [] = Unit {0}
Held (x ∷ xs) = T (fits binary64 x) × Held xs

-- a state is there exactly where the orbit is resonant: not 4 and not 5
abbrev pub Fitting : Resonant → Option ResonanceState → Type 0
Fitting (No a0) None = Unit {0}
Fitting (No a0) (Some z) = ⊥
Fitting (Yes lambda-0 lambda-dot-0 theta_0 r) None = ⊥
Fitting (Yes lambda-0 lambda-dot-0 theta_0 r) (Some z) = Unit {0}

-- the body of constants with none or a state is examined as they are themselves: they come back to the bit, or are refused alike
abbrev pub ReadBack : Type 0
ReadBack = (c : Constants) (s : Option ResonanceState) → Fitting c.resonant s → Held (body_numbers c s) → body_read (body_of c s) ≡ examined c s
