-- The operator's question: does the dish point where it would have pointed without the restart? Statements only. Assumes nothing.
use Rattle.std.specs.Prelude.{ℕ, ◌^◌, ◌<◌, ◌≡◌, List, Result, Ok}
use Rattle.orbit.specs.declared.propagator.Constants.{Constants}
use Rattle.elements.specs.declared.elements.Question.{Question}
use Rattle.elements.specs.declared.elements.Elements.{Elements}
use Rattle.elements.specs.declared.elements.ElementsError.{ElementsError}
use Rattle.contents.specs.Format.{Bytes}
use Rattle.body.specs.Body.{body_numbers}
use Rattle.body.specs.Examine.{steps_of, examined}
use Rattle.body.specs.Back.{Held}
use Rattle.store.specs.Save.{stored, stored_file}
use Rattle.controller.specs.declared.Controller.{Controller}
use Rattle.controller.specs.Running.{Reply, asked_of, kept, restore_of}
use Rattle.controller.specs.Restart.{NotSeven}
use Rattle.controller.specs.Demand.{Event, run, start}

-- Save, restart, restore: a controller v of anything that restores what a controller w has saved is w, constants and state to the bit
abbrev pub Resumes : Type 0
Resumes =
    (w v : Controller) (s : List ℕ) (x room n : ℕ)
    → Bytes s → x < 2 ^ 32 → Held (body_numbers w.constants w.state) → stored s x w.constants w.state room ≡ Ok n
    → restore_of v (stored_file s x w.constants w.state) x ≡ kept w (Ok tt) (steps_of (examined w.constants w.state))

-- the same answer; and where it is elements or one of 9 to 12, the same controller after it, bit for bit
pub record SamePointing (x y : Reply) : Type 0 where
  pub answer : x.answer ≡ y.answer
  pub controller : (o : Result Elements ElementsError) → x.answer ≡ Ok o → x.controller ≡ y.controller

-- Whatever asks, saves, resets and restores two controllers have behind them: with the same constants in force, the same ask of each, not refused 7, gives the
-- same answer and leaves the same controller
abbrev pub PointsAlike : Type 0
PointsAlike =
    (c d : Constants) (es fs : List Event)
    → let w = (run (start c) es).controller in
    let v = (run (start d) fs).controller in
    w.constants ≡ v.constants → (q : Question) → NotSeven (asked_of w q).answer → NotSeven (asked_of v q).answer → SamePointing (asked_of w q) (asked_of v q)
