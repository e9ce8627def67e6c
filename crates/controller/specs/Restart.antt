-- The operator's question, for the asks of one orbit. Statements only. Assumes nothing.
use Rattle.std.specs.Prelude.{ℕ, ◌≤◌, ◌^◌, ◌≡◌, Bool, Some, Result, Ok, Err, Float}
use Rattle.orbit.specs.declared.propagator.Resonance.{Resonance}
use Rattle.orbit.specs.declared.propagator.Resonant.TheVariants.{Yes}
use Rattle.orbit.specs.declared.propagator.Constants.{Constants}
use Rattle.elements.specs.declared.elements.Question.{Question}
use Rattle.elements.specs.declared.elements.Elements.{Elements}
use Rattle.elements.specs.declared.elements.ElementsError.{ElementsError}
use Rattle.times.specs.declared.time.Fault.TheVariants.{NotOnward}
use Rattle.rates.specs.declared.Integrator.{Integrator}
use Rattle.resonance.specs.declared.state.ResonanceState.{ResonanceState}
use Rattle.resonance.specs.declared.ask.Asked.{Asked}
use Rattle.resonance.specs.State.{fresh_of, integrator}
use Rattle.resonance.specs.Advance.{steps}
use Rattle.resonance.specs.Ask.{Answer, state_ask_of}

-- s is the fresh state of n and lambda_0 after j steps in one direction
abbrev pub Reaches : Integrator → Float → Float → ResonanceState → Type 0
Reaches i n lambda-0 s = (b : Bool) × (j : ℕ) × (j ≤ 2 ^ 20) × (steps i b j (fresh_of n lambda-0) ≡ Some s)

-- an ask that is not refused for direction or order
abbrev pub NotSeven : Answer → Type 0
NotSeven a = a ≡ Err NotOnward → ⊥

-- the same answer; and where it is elements or one of 9 to 12, the same state, bit for bit
pub record SameAnswer (x y : Asked ResonanceState) : Type 0 where
  pub answer : x.answer ≡ y.answer
  pub state : (o : Result Elements ElementsError) → x.answer ≡ Ok o → x.state ≡ y.state

-- Whatever steps two states of one orbit have behind them, the same ask of each, not refused 7, gives the same answer and the same next state
abbrev pub Restart : Type 0
Restart = (c : Constants) (lambda-0 lambda-dot-0 theta_0 : Float) (r : Resonance) → c.resonant ≡ Yes lambda-0 lambda-dot-0 theta_0 r
    → (s z : ResonanceState)
    → Reaches (integrator c.orbit_0 lambda-dot-0 r) c.orbit_0.mean_motion lambda-0 s
    → Reaches (integrator c.orbit_0 lambda-dot-0 r) c.orbit_0.mean_motion lambda-0 z
    → (q : Question) → NotSeven (state_ask_of c s q).answer → NotSeven (state_ask_of c z q).answer → SameAnswer (state_ask_of c s q) (state_ask_of c z q)
