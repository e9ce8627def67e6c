-- The answer of a save, once 4, 5 and 14 are passed, and its output. Assumes nothing.
use mathlib.Core.Path.{◌≡◌, refl, sym, ap, ◌∙◌}
use mathlib.Core.Bool.{true, false, not, ◌&&◌}
use mathlib.Core.List.{List, ◌++◌}
use Prim.Native.Nat.{ℕ, ◌-◌}
use lib.ListN.{length, take, replicate}
use lib.Seq.{take_at}
use Rattle.orbit.specs.declared.propagator.Constants.{Constants}
use Rattle.resonance.specs.declared.state.ResonanceState.{ResonanceState}
use Rattle.contents.specs.Format.{contents_right}
use Rattle.contents.specs.Save.{saved, saved_file, output_of}
use Rattle.std.specs.Prelude.{is_some, Result, Ok, Err, Option}
use Rattle.contents.specs.declared.save.SaveError.{SaveError}
use Rattle.body.specs.Body.{longest, body_of}
use Rattle.body.specs.Examine.{examined}
use Rattle.store.specs.Save.{is_resonant, of_saved, of_examined, stored, stored_file, output_after}

-- 4, 5 and 14 are passed
pub record Passed (s : List ℕ) (c : Constants) (z : Option ResonanceState) : Type 0 where
  pub not-four : (is_some z && not (is_resonant c.resonant)) ≡ false
  pub not_five : (not (is_some z) && is_resonant c.resonant) ≡ false
  pub right : contents_right s ≡ true

pub passed : (s : List ℕ) (x : ℕ) (c : Constants) (z : Option ResonanceState) (room : ℕ) → Passed s c z
    → stored s x c z room ≡ of_examined (examined c z) (of_saved (saved s x (body_of c z) room))
unfolding stored
passed s x c z room p = simp (p.not-four, p.not_five, p.right)

-- ---- the file's half

-- the front of the record's body and the zeros past it is the body
pub front : (c : Constants) (z : Option ResonanceState) {n : ℕ} {b : List ℕ} → n ≡ length (body_of c z) → b ≡ body_of c z ++ replicate (longest - length (body_of c z)) 0
    → take n b ≡ body_of c z
front c z h e = simp (h, e) (take_at (body_of c z) _ (length (body_of c z)) refl)

output-of : (r : Result ℕ SaveError) (new out : List ℕ) → output_of r new out ≡ output_after (of_saved r) new out
output-of (Err e) new out = refl
output-of (Ok n) new out = refl

-- what is saved is the record's body: answer and output are those of the record
pub handed : (s : List ℕ) (x : ℕ) (c : Constants) (z : Option ResonanceState) (out : List ℕ) {b new : List ℕ} {r : Result ℕ SaveError} → b ≡ body_of c z
    → r ≡ saved s x b (length out) → new ≡ output_of r (saved_file s x b) out
    → stored s x c z (length out) ≡ of_saved (saved s x (body_of c z) (length out))
    → (of_saved r ≡ stored s x c z (length out)) × (new ≡ output_after (of_saved r) (stored_file s x c z) out)
handed s x c z out {b} {new} {r} h p q e = (
  ap of_saved (p ∙ ap (λ (l : List ℕ). saved s x l (length out)) h) ∙ sym e,
  q ∙ ap (λ (l : List ℕ). output_of r (saved_file s x l) out) h ∙ output-of r (stored_file s x c z) out,
)
