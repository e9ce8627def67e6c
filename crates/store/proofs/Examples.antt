-- The marked examples hold: those of the crates below, and the empty file by them. Assumes nothing.
use mathlib.Core.Path.{◌≡◌, refl, ap, ◌∙◌}
use lib.ListN.{length}
use lib.Ieee.{Float}
use Rattle.orbit.specs.declared.propagator.Resonant.TheVariants.{No}
use Rattle.orbit.specs.declared.propagator.Constants.{Constants}
use Rattle.stepping.proofs.Examples.{examples}
use Rattle.contents.specs.Examples.{empty}
use Prim.Native.Nat.{ℕ}
use Rattle.std.specs.Prelude.{Result, None}
use Rattle.contents.specs.declared.save.SaveError.{SaveError}
use Rattle.contents.proofs.Examples.{empty-file}
use Rattle.body.specs.Body.{body_of}
use Rattle.body.specs.Examine.{examined}
use Rattle.body.proofs.Sizes.{length-body}
use Rattle.store.specs.Restore.{restored_at, restored_from}
use Rattle.store.specs.Save.{is_resonant, of_saved, of_examined}
use Rattle.store.specs.Examples.{Seven, Marked}
use Rattle.store.proofs.Answer.{Passed, passed}

length-plain : (c : Constants) (a0 : Float) → c.resonant ≡ No a0 → length (body_of c None) ≡ 176
length-plain c a0 h = length-body c None ∙ simp h

pub marked : Marked
marked =
    record {
      a_to_l = examples;
      m_file = empty-file;
      m_restore = λ x. unfold restored_from in ap (restored_at empty) (empty-file.missing x);
      m_save = saves-seven;
    }
  where
    saves-seven : (c : Constants) (a0 : Float) → c.resonant ≡ No a0 → Seven c
    saves-seven c a0 h =
        let l = length-plain c a0 h in
        let p : Passed empty c None = record { not-four = refl; not_five = ap is_resonant h; right = empty-file.right } in
        record {
          file = empty-file.file (body_of c None) l;
          size = empty-file.size (body_of c None) l;
          written =
              λ e. passed empty 7 c None 196 p ∙ ap (λ (r : Result ℕ SaveError). of_examined (examined c None) (of_saved r)) (empty-file.written (body_of c None) l) ∙ simp e;
          short =
              λ e. passed empty 7 c None 195 p ∙ ap (λ (r : Result ℕ SaveError). of_examined (examined c None) (of_saved r)) (empty-file.short (body_of c None) l) ∙ simp e;
        }
