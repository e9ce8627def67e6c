-- `resonance::advance`'s loop meets its contract. The invariant is `Walk`: so many steps are made, and the time is the state's number and those further. The
-- measure is what is left of t's number. Assumes nothing.
use mathlib.Core.Path.{◌≡◌, refl, sym, ◌∙◌}
use Rattle.std.specs.Prelude.{Option, Some, None}
use Rattle.resonance.specs.declared.state.ResonanceState.{ResonanceState}
use mathlib.Core.Bool.{true, not}
use Prim.Native.Nat.{ℕ, ◌+◌, ◌-◌, ◌<◌, ◌≤◌, ◌^◌}
use native.Mathlib.Omega.{arith}
use denote.Floats.{passes}
use lib.Dec.{T}
use lib.Ieee.{of_bits, lt, fits, binary64}
use Rattle.times.specs.Time.{number, back, due}
use Rattle.resonance.proofs.Walk.{walk_start, walk_more, walk-few, walk-next, walk-stop, walk_end}
use Rattle.resonance.proofs.state.ResonanceState.walk.Goals.{In-loop-c, Start}
use Rattle.resonance.proofs.state.ResonanceState.walk.Goals as goal

-- t is a value of binary64
held : (c : Start) → T (fits binary64 c.args.t)
held c = passes (fits binary64 c.args.t) c.well_formed.1.1.0.1

in_loop : (c : In-loop-c) → T (fits binary64 c.args.t)
in_loop c = passes (fits binary64 c.args.t) c.well_formed.1.1.0.1

-- a step more is due, so t's number is not reached
more : (c : In-loop-c) → due (not (lt (of_bits binary64 0) c.args.t)) c.loop-c.state.t c.args.t ≡ true
more c = sym c.is_due.ensures ∙ c.loop-c-test.true

less : (c : In-loop-c) → number c.args.self.t + c.loop-c.steps < number c.args.t
less c = walk_more _ _ _ _ _ _ (in_loop c) c.loop-c.invariant (more c)

few : (c : In-loop-c) → number c.args.t ≤ 2 ^ 20
few c = walk-few _ _ _ _ _ _ (in_loop c) c.loop-c.invariant

none-from : (o : Option ResonanceState) → ((x : ResonanceState) → o ≡ Some x → ⊥) → o ≡ None
none-from None h = refl
none-from (Some x) h = absurd (h x refl)

pub loop-c-init : goal.loop-c-init
unfolding back of_bits
loop-c-init c = walk_start c.args.c c.args.self c.args.t c.requires

pub overflow_add-steps : goal.overflow_add-steps
overflow_add-steps c = omega (arith, less (goal.at.overflow_add-steps c).In-loop-c, few (goal.at.overflow_add-steps c).In-loop-c)

pub loop-c-smaller : goal.loop-c-smaller
loop-c-smaller c =
    falls (number c.args.t) (number c.args.self.t) c.loop-c.steps (less (goal.at.loop-c-smaller c).In-loop-c)
  where
    falls : (k j n : ℕ) → j + n < k → k - (j + (n + 1)) < k - (j + n)
    falls k j n h = omega arith

pub loop-c-preserved : goal.loop-c-preserved
loop-c-preserved c =
    walk-next _ _ _ _ _ _ (held (goal.at.loop-c-preserved c).Start) c.loop-c.invariant c.in-Some.next (more (goal.at.loop-c-preserved c).In-loop-c) (sym c.next.ensures ∙ c.in-Some.is)

pub returns-in_default : goal.returns-in_default
returns-in_default c =
    walk-stop _ _ _ _ _ _ (held (goal.at.returns-in_default c).Start) c.loop-c.invariant (more (goal.at.returns-in_default c).In-loop-c) (sym c.next.ensures ∙ none-from c.next.result c.in_default.not-Some)

pub returns : goal.returns
returns c = walk_end _ _ _ _ _ _ (held (goal.at.returns c).Start) c.loop-c.invariant (sym c.is_due.ensures ∙ c.loop-c-test.false)
