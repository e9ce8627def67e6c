-- So many steps, an ask's stepping to its time, and the replay of a stored state. Definitions only. Assumes nothing.
use Rattle.std.specs.Prelude.{ℕ, zero, suc, ◌-◌, Bool, false, ◌&&◌, cond, Float, Option, Some, None, Result, Ok, Err}
use Rattle.std.specs.Option.{option_and_then}
use Rattle.times.specs.declared.time.Fault.TheVariants.{RatesRefused}
use Rattle.rates.specs.declared.Integrator.{Integrator}
use Rattle.resonance.specs.declared.state.ResonanceState.{ResonanceState}
use Rattle.resonance.specs.declared.state.Refused.{Refused}
use Rattle.resonance.specs.declared.advance.Walked.{Walked}
use Rattle.times.specs.Time.{number, back, placed, Plan, refuse, go, plan}
use Rattle.resonance.specs.State.{fresh_of, same_state, step_of, refused_with}

-- k steps, back or forward, each from the state that the one before gives; none where 8 arises. The last state's own rates are not tried
unfoldable pub steps : Integrator → Bool → ℕ → ResonanceState → Option ResonanceState
steps c b zero s = Some s
steps c b (suc k) s = option_and_then (λ n. steps c b k n) (step_of c b s)

abbrev pub one_more : Option ResonanceState → (ResonanceState → ℕ) → ℕ
one_more None f = 0
one_more (Some s) f = suc (f s)

-- how many of k steps are made before one is refused, and k where none is
unfoldable pub made : Integrator → Bool → ℕ → ResonanceState → ℕ
made c b zero s = 0
made c b (suc k) s = one_more (step_of c b s) (λ n. made c b k n)

-- ---- the stepping of an ask: 1, 2, 6, 7 by the two times, and then 8. A refusal hands the state back as it was given

-- at a state, after so many steps
abbrev pub walked : ResonanceState → ℕ → Walked
walked n k = record { state = n; steps = k }

abbrev pub taken : ResonanceState → ℕ → Option ResonanceState → Result Walked Refused
taken s k None = Err (refused_with RatesRefused s)
taken s k (Some n) = Ok (walked n k)

abbrev pub carried_out : Integrator → ResonanceState → Plan → Result Walked Refused
carried_out c s (refuse f) = Err (refused_with f s)
carried_out c s (go b k) = taken s k (steps c b k s)

unfoldable pub advance_of : Integrator → ResonanceState → Float → Result Walked Refused
advance_of c s t = carried_out c s (plan s.t t)

-- ---- the loop, which knows too how many steps it made before one was refused

abbrev pub counted : ℕ → ℕ → Option ResonanceState → Result Walked ℕ
counted k m None = Err m
counted k m (Some n) = Ok (walked n k)

abbrev pub walk_by : Integrator → ResonanceState → Bool → ℕ → Result Walked ℕ
walk_by c s b k = counted k (made c b k s) (steps c b k s)

unfoldable pub walk_of : Integrator → ResonanceState → Float → Result Walked ℕ
walk_of c s t = walk_by c s (back t) (number t - number s.t)

-- ---- the replay of a stored state

abbrev pub agrees : ResonanceState → Option ResonanceState → Bool
agrees z None = false
agrees z (Some s) = same_state s z

-- On `Err`, 18 is given: the stored state z differs in a bit from the fresh state after |time| / 720 steps, or its time fails 6, or a step fails 8.
-- The steps are those made: none where the time fails 6, i where step i + 1 fails 8, and all of them otherwise.
abbrev pub replay_by : Integrator → ResonanceState → ResonanceState → Bool → ℕ → Result ℕ ℕ
replay_by c f z b k =
    let n = cond (placed z.t) (made c b k f) 0 in
    cond (placed z.t && agrees z (steps c b k f)) (Ok n) (Err n)

unfoldable pub replay_of : Integrator → Float → Float → ResonanceState → Result ℕ ℕ
replay_of c n lambda-0 z = replay_by c (fresh_of n lambda-0) z (back z.t) (number z.t)
