-- Document 01's number of an answer of the integrator: 0 where it is no refusal. Definitions only. Assumes nothing.
use Rattle.std.specs.Prelude.{ℕ, Option, Some, None, Result, Ok, Err}
use Rattle.times.specs.Refusal.{number}
use Rattle.rates.specs.declared.Rates.{Rates}
use Rattle.resonance.specs.declared.state.ResonanceState.{ResonanceState}
use Rattle.resonance.specs.declared.state.Refused.{Refused}
use Rattle.resonance.specs.declared.advance.Walked.{Walked}

-- of a state's rates
abbrev pub of_rates : Option Rates → ℕ
of_rates (Some r) = 0
of_rates None = 8

-- of one step
abbrev pub of_step : Result ResonanceState Refused → ℕ
of_step (Ok s) = 0
of_step (Err r) = number r.fault

-- of the stepping to a time
abbrev pub of_advance : Result Walked Refused → ℕ
of_advance (Ok w) = 0
of_advance (Err r) = number r.fault
