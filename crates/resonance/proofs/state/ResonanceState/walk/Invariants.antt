-- `resonance::advance`'s loop meets its contract. The invariant is `Walk`: so many steps are made, and the time is the state's number and those further. The
-- measure is what is left of t's number. Assumes nothing.
use Prim.Native.Nat.{◌+◌, ◌-◌}
use Rattle.times.specs.Time.{number}
use Rattle.resonance.proofs.Walk.{Walk}
use Rattle.resonance.proofs.state.ResonanceState.walk.Given as goal

abbrev pub invariant-loop-c : goal.invariant-loop-c
invariant-loop-c l = Walk l.c l.initial.state l.t l.back l.state l.steps

abbrev pub decreases-loop-c : goal.decreases-loop-c
decreases-loop-c l = number l.t - (number l.initial.state.t + l.steps)
