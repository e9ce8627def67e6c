-- What an ask in place returns. Definitions only. Assumes nothing.
use Rattle.resonance.specs.declared.state.ResonanceState.{ResonanceState}
use Rattle.resonance.specs.declared.ask.Asked.{Asked}
use Rattle.in_place.specs.declared.InPlace.{InPlace}

-- the answer and the steps, without the state
abbrev pub answered : Asked ResonanceState → InPlace
answered a = record { answer = a.answer; steps = a.steps }
