-- `body::bytes::body_of` meets its contract: the three parts are laid over zeros. Assumes nothing.
use mathlib.Core.Path.{◌≡◌, sym, ◌∙◌, ap}
use mathlib.Core.List.{List, ◌++◌}
use Prim.Native.Nat.{ℕ, ◌-◌}
use lib.ListN.{length, take, replicate}
use lib.Ieee.{Float}
use Rattle.orbit.specs.declared.propagator.Constants.{Constants}
use Rattle.record.specs.Record.{kind_of, numbers_of}
use Rattle.std.specs.Prelude.{Option}
use Rattle.resonance.specs.declared.state.ResonanceState.{ResonanceState}
use Rattle.body.specs.Floats.{float_bytes}
use Rattle.body.specs.Body.{longest, number_count, leading, body_of, state_numbers}
use Rattle.body.proofs.Sizes.{numbers-count}
use Rattle.body.proofs.Made.{flag_byte, made}
use Rattle.body.proofs.bytes.body_of.Goals.{After-number_count-n}
use Rattle.body.proofs.bytes.body_of.Goals as goal

-- the parts of a body
parts : (k : Constants) (s : Option ResonanceState) {f : List ℕ} {xs : List Float} → f ≡ leading (kind_of k.resonant) k.afspc_compatibility_mode
    → xs ≡ take (number_count (kind_of k.resonant)) (numbers_of k) → f ++ float_bytes (xs ++ state_numbers s) ≡ body_of k s
unfolding body_of
parts k s e h = simp (e, h)

pub returns : goal.returns
returns c =
    let a = c.args in
    let count : c.number_count-n.result ≡ number_count (kind_of a.c.resonant) = c.number_count-n.ensures ∙ ap number_count c.kind_of-kind.ensures in
    let own : take c.number_count-n.result c.numbers_of-x.result ≡ take (number_count (kind_of a.c.resonant)) (numbers_of a.c) = simp (count, c.numbers_of-x.ensures) in
    let first : leading c.kind_of-kind.result a.c.afspc_compatibility_mode ≡ leading (kind_of a.c.resonant) a.c.afspc_compatibility_mode =
    ap (λ (k : ℕ). leading k a.c.afspc_compatibility_mode) c.kind_of-kind.ensures in
    made c.kind_of-kind.result a.c.afspc_compatibility_mode c.number_count-n.result (take c.number_count-n.result c.numbers_of-x.result) (state_numbers a.s)
    (ap length own ∙ numbers-count a.c ∙ sym count)
    (c.from.ensures ∙ flag_byte a.c.afspc_compatibility_mode) c.put_floats.ensures c.put_state.ensures
    ∙ ap (λ (l : List ℕ). l ++ replicate (longest - length l) 0) (parts a.c a.s first own)
