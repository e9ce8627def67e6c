-- The running controller as a value. Definitions only. Assumes nothing.
use Rattle.std.specs.Prelude.{ℕ, List, Option, Result, Ok, Err}
use Rattle.orbit.specs.declared.propagator.Constants.{Constants}
use Rattle.elements.specs.declared.elements.Question.{Question}
use Rattle.resonance.specs.declared.state.ResonanceState.{ResonanceState}
use Rattle.resonance.specs.declared.ask.Asked.{Asked}
use Rattle.resonance.specs.State.{fresh}
use Rattle.resonance.specs.Ask.{Answer, ask_of}
use Rattle.body.specs.declared.examine.Record.{Record}
use Rattle.store.specs.declared.restore.RestoreError.{RestoreError}
use Rattle.store.specs.Restore.{number as restored_number, steps_of, restored_from}
use Rattle.controller.specs.declared.Controller.{Controller}
use Rattle.controller.specs.declared.After.{After}

-- after an ask
abbrev pub Reply : Type 0
Reply = After Answer

-- whether a restore was accepted, or which of 14 to 18 refused it; and after one
abbrev pub Restoring : Type 0
Restoring = Result (Unit {0}) RestoreError

abbrev pub Resumed : Type 0
Resumed = After Restoring

-- document 01's number of a restore's answer: 0 where it was accepted
abbrev pub number : Restoring → ℕ
number (Ok _) = 0
number (Err e) = restored_number (Err e)

-- a controller of an orbit starts with its fresh state, and has it again after a reset
abbrev pub started : Constants → Controller
started c = record { constants = c; state = fresh c }

-- an ask leaves the constants, and the state that it hands back
abbrev pub after : Constants → Asked (Option ResonanceState) → Reply
after c a = record { answer = a.answer; controller = record { constants = c; state = a.state }; steps = a.steps }

abbrev pub asked_of : Controller → Question → Reply
asked_of w q = after w.constants (ask_of w.constants w.state q)

-- a restore brings constants and state together; a refused one leaves all in force as it was
abbrev pub kept : Controller → Restoring → ℕ → Resumed
kept w a k = record { answer = a; controller = w; steps = k }

abbrev pub restored_by : Controller → Result Record RestoreError → Resumed
restored_by w (Err e) = kept w (Err e) (steps_of (Err e))
restored_by w (Ok r) = kept (record { constants = r.constants; state = r.state }) (Ok tt) r.steps

abbrev pub restore_of : Controller → List ℕ → ℕ → Resumed
restore_of w s x = restored_by w (restored_from s x)
