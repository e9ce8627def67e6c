-- The operator's question: a save and a restore give the controller back, and by demand 3 two controllers of one orbit hold states that Restart speaks of.
-- Assumes nothing.
use mathlib.Core.Path.{◌≡◌, refl, sym, ap, ◌∙◌, subst}
use lib.Ieee.{Float}
use Rattle.std.specs.Prelude.{Option, Some, None}
use Rattle.orbit.specs.declared.propagator.Resonant.{Resonant}
use Rattle.orbit.specs.declared.propagator.Resonant.TheVariants.{No, Yes}
use Rattle.orbit.specs.declared.propagator.Constants.{Constants}
use Rattle.elements.specs.declared.elements.Question.{Question}
use Rattle.resonance.specs.declared.state.ResonanceState.{ResonanceState}
use Rattle.times.specs.Time.{number, back}
use Rattle.resonance.specs.Ask.{ask_of}
use Rattle.store.proofs.Kept.{save-restores}
use Rattle.controller.specs.Running.{after, asked_of, restored_by}
use Rattle.controller.specs.Restart.{NotSeven}
use Rattle.controller.specs.Demand.{run, start, GoodBy}
use Rattle.controller.specs.Operator.{Resumes, SamePointing, PointsAlike}
use Rattle.controller.proofs.Restart.{restart}
use Rattle.controller.proofs.Demand.{demand3}

pub resumes : Resumes
resumes w v s x room n bytes hx held h = ap (restored_by v) (save-restores s x w.constants w.state room n bytes hx held h).same

-- two states that demand 3 allows, under the same constants
alike : (k : Constants) (s z : Option ResonanceState) (T U : Float) → GoodBy k k.resonant s T → GoodBy k k.resonant z U → (q : Question)
    → NotSeven (ask_of k s q).answer → NotSeven (ask_of k z q).answer → SamePointing (after k (ask_of k s q)) (after k (ask_of k z q))
alike k s z T U g h q n m = go k.resonant refl s z g h n m
  where
    go : (r : Resonant) → k.resonant ≡ r → (s z : Option ResonanceState) → GoodBy k r s T → GoodBy k r z U
        → NotSeven (ask_of k s q).answer → NotSeven (ask_of k z q).answer → SamePointing (after k (ask_of k s q)) (after k (ask_of k z q))
    go (No a0) kind s z g h n m =
        subst (λ (y : Option ResonanceState). SamePointing (after k (ask_of k s q)) (after k (ask_of k y q))) (g ∙ sym h) (record { answer = refl; controller = λ o p. refl })
    go (Yes lambda-0 lambda-dot-0 theta_0 r) kind None z g h n m = absurd (g.2 refl)
    go (Yes lambda-0 lambda-dot-0 theta_0 r) kind (Some a) None g h n m = absurd (h.2 refl)
    go (Yes lambda-0 lambda-dot-0 theta_0 r) kind (Some a) (Some b) g h n m =
        let e = restart k lambda-0 lambda-dot-0 theta_0 r kind a b (back T, number T, g.0, g.1) (back U, number U, h.0, h.1) q n m in
        record { answer = e.answer; controller = λ o p. ap (λ (y : ResonanceState). record { constants = k; state = Some y }) (e.state o p) }

pub points-alike : PointsAlike
points-alike c d es fs e q n m =
    let w = run (start c) es in
    let v = run (start d) fs in
    let held = v.controller.state in
    subst (λ (k : Constants). NotSeven (ask_of k held q).answer → SamePointing (asked_of w.controller q) (after k (ask_of k held q))) e
    (alike w.controller.constants w.controller.state held w.time v.time (demand3 c es)
    (subst (λ (k : Constants). GoodBy k k.resonant held v.time) (sym e) (demand3 d fs)) q n) m
