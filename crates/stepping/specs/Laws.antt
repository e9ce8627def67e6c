-- What is proved of the definitions, in proofs/Laws.antt: the operations on times are exact, steps compose, and the steps reported are those of the two times.
-- Statements only. Assumes nothing.
use Rattle.std.specs.Prelude.{ℕ, suc, ◌+◌, ◌-◌, ◌*◌, ◌%◌, ◌^◌, ◌≤◌, ◌<◌, ◌≡◌, Bool, ◌&&◌, ◌||◌, ℤ, T, ltb, eqb, Float, Some, None, Ok}
use Rattle.std.specs.Option.{option_and_then}
use Rattle.std.specs.Float.{fin, binary64}
use Rattle.std.specs.Float.Ieee.{up, down, fits}
use Rattle.std.specs.Float.Ieee.Exact.{HasValue}
use Rattle.floats.specs.Rounded.{◌⊕◌, ◌⊖◌}
use Rattle.floats.specs.Value.{at_most}
use Rattle.rates.specs.declared.Integrator.{Integrator}
use Rattle.resonance.specs.declared.state.ResonanceState.{ResonanceState}
use Rattle.times.specs.Time.{limit, number, time_of, back, delta, due}
use Rattle.resonance.specs.State.{fresh_of}
use Rattle.resonance.specs.Advance.{steps, made, walked, advance_of}

-- ---- exactness

-- time + Δ is the next state's time, bit for bit
abbrev pub ExactStep : Type 0
ExactStep = (b : Bool) (i : ℕ) → i < 2 ^ 20 → time_of b i ⊕ delta b ≡ time_of b (suc i)

-- the loop's test on floats is true exactly while the state's number is below t's: t - 720 is not below the state's time, and t + 720 not above it going back
abbrev pub ExactTest : Type 0
ExactTest = (b : Bool) (i : ℕ) (t : Float) → i ≤ 2 ^ 20 → T (fits binary64 t) → T (at_most limit t) → back t ≡ b → due b (time_of b i) t ≡ ltb i (number t)

-- the rest of the time, t less that of the last state, is |t|'s remainder by 720, exact, with t's sign; where nothing is left of a step or more it is +0.0
abbrev pub ExactRest : Type 0
ExactRest = (s : Bool) (m : ℕ) (e : ℤ) → T (fits binary64 (fin s m e)) → T (at_most limit (fin s m e))
    → let t = fin s m e in
    let r = m * up e % (720 * down e) in
    HasValue (t ⊖ time_of (back t) (number t)) (s && (ltb 0 r || eqb (number t) 0)) r (down e)

-- ---- steps

-- j + k steps are k steps after j
abbrev pub Composed : Type 0
Composed = (c : Integrator) (b : Bool) (j k : ℕ) (s : ResonanceState) → steps c b (j + k) s ≡ option_and_then (λ (n : ResonanceState). steps c b k n) (steps c b j s)

-- a state that k steps from a fresh one reach stands at the k-th time, bit for bit
abbrev pub Timed : Type 0
Timed = (c : Integrator) (b : Bool) (k : ℕ) (n l : Float) (s : ResonanceState) → k ≤ 2 ^ 20 → steps c b k (fresh_of n l) ≡ Some s → s.t ≡ time_of b k

-- every step is made where a state is reached
abbrev pub AllMade : Type 0
AllMade = (c : Integrator) (b : Bool) (k : ℕ) (s n : ResonanceState) → steps c b k s ≡ Some n → made c b k s ≡ k

-- where none is reached, those made reach a state, and one more reaches none
abbrev pub FirstRefused : Type 0
FirstRefused = (c : Integrator) (b : Bool) (k : ℕ) (s : ResonanceState) → steps c b k s ≡ None
    → (made c b k s < k) × (steps c b (made c b k s) s ≡ None → ⊥) × (steps c b (suc (made c b k s)) s ≡ None)

-- ---- the stepping of an ask: its steps are t's number less that of the state's time, and it ends at the last multiple of 720 not beyond t, bit for bit
abbrev pub Reported : Type 0
Reported = (c : Integrator) (s : ResonanceState) (t : Float) (n : ResonanceState) (k : ℕ) → T (fits binary64 s.t) → advance_of c s t ≡ Ok (walked n k)
    → (number s.t ≤ number t) × (k ≡ number t - number s.t) × (n.t ≡ time_of (back t) (number t))
