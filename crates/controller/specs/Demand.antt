-- Demand 3: after any sequence of asks, saves, restores and resets, while the orbit in force is resonant, the state is the fresh state of the constants in force
-- after k defined steps, k the whole part of |T| / 720 in T's direction, whoever wrote the file. Definitions and a statement. Assumes nothing.
use Rattle.std.specs.Prelude.{ℕ, ◌≤◌, ◌^◌, ◌≡◌, List, [], ◌∷◌, Option, Some, None, Ok, Err, Float}
use Rattle.orbit.specs.declared.propagator.Resonant.{Resonant}
use Rattle.orbit.specs.declared.propagator.Resonant.TheVariants.{No, Yes}
use Rattle.orbit.specs.declared.propagator.Constants.{Constants}
use Rattle.elements.specs.declared.elements.Question.{Question}
use Rattle.resonance.specs.declared.state.ResonanceState.{ResonanceState}
use Rattle.times.specs.Time.{number, back, zero_time}
use Rattle.resonance.specs.State.{fresh_of, integrator}
use Rattle.resonance.specs.Advance.{steps}
use Rattle.resonance.specs.Ask.{Answer}
use Rattle.controller.specs.declared.Controller.{Controller}
use Rattle.controller.specs.Running.{Reply, Restoring, Resumed, started, asked_of, restore_of}

-- an ask with any arguments; a save into any file, for any satellite, with any room; a reset; a restore from any bytes, of any satellite
pub data Event : Type 0 where
  asks : Question → Event
  saves : List ℕ → ℕ → ℕ → Event
  resets : Event
  restores : List ℕ → ℕ → Event

-- the controller, and T: the time last asked and not refused 1 to 8, 0 after a reset, the stored time after a restore
pub record Session : Type 0 where
  pub controller : Controller
  pub time : Float

-- refusals 1 to 8 leave T; elements and 9 to 12 set it
abbrev pub time_after : Float → Float → Answer → Float
time_after old t (Err f) = old
time_after old t (Ok o) = t

abbrev pub after_ask : Session → Question → Reply → Session
after_ask w q a = record { controller = a.controller; time = time_after w.time q.t a.answer }

abbrev pub stored_time : Option ResonanceState → Float
stored_time None = zero_time
stored_time (Some z) = z.t

-- a refused restore leaves T
abbrev pub time_resumed : Float → Option ResonanceState → Restoring → Float
time_resumed old s (Ok _) = stored_time s
time_resumed old s (Err e) = old

abbrev pub after_restore : Session → Resumed → Session
after_restore w r = record { controller = r.controller; time = time_resumed w.time r.controller.state r.answer }

-- a save changes neither, whatever becomes of it
abbrev pub happen : Session → Event → Session
happen w (asks q) = after_ask w q (asked_of w.controller q)
happen w (saves s x room) = w
happen w resets = record { controller = started w.controller.constants; time = zero_time }
happen w (restores s x) = after_restore w (restore_of w.controller s x)

abbrev pub run : Session → List Event → Session
run w [] = w
run w (e ∷ es) = run (happen w e) es

abbrev pub start : Constants → Session
start c = record { controller = started c; time = zero_time }

-- none for a non-resonant orbit; for a resonant one the fresh state after k steps in T's direction
abbrev pub GoodBy : Constants → Resonant → Option ResonanceState → Float → Type 0
GoodBy c (No a0) s T = s ≡ None
GoodBy c (Yes lambda-0 lambda-dot-0 theta_0 r) s T =
    (number T ≤ 2 ^ 20) × (steps (integrator c.orbit_0 lambda-dot-0 r) (back T) (number T) (fresh_of c.orbit_0.mean_motion lambda-0) ≡ s) × (s ≡ None → ⊥)

abbrev pub Good : Session → Type 0
Good w = GoodBy w.controller.constants w.controller.constants.resonant w.controller.state w.time

-- from any constants, after any events
abbrev pub Demand3 : Type 0
Demand3 = (c : Constants) (es : List Event) → Good (run (start c) es)
