-- What a save keeps: an accepted save has passed its examination, so the body reads back as the record, and the file's half keeps the rest. Assumes nothing.
use mathlib.Core.Path.{◌≡◌, refl, sym, ap, ◌∙◌}
use mathlib.Core.Bool.{Bool, true, false, not, ◌&&◌}
use mathlib.Core.List.{List}
use Rattle.std.specs.Prelude.{is_some, Option, Result, Ok, Err, Some, None}
use Prim.Native.Nat.{ℕ}
use native.Mathlib.Omega.{arith}
use lib.ListN.{take, drop}
use Rattle.orbit.specs.declared.propagator.Resonant.{Resonant}
use Rattle.orbit.specs.declared.propagator.Resonant.TheVariants.{No, Yes}
use Rattle.orbit.specs.declared.propagator.Constants.{Constants}
use Rattle.resonance.specs.declared.state.ResonanceState.{ResonanceState}
use Rattle.contents.specs.Format.{contents_right}
use Rattle.contents.specs.Find.{found_in, bytes_at}
use Rattle.contents.specs.Save.{saved}
use Rattle.contents.specs.declared.find.Span.{Span}
use Rattle.contents.specs.declared.find.FindError.{FindError}
use Rattle.contents.specs.declared.find.FindError.TheVariants as F
use Rattle.contents.specs.declared.save.SaveError.{SaveError}
use Rattle.contents.proofs.Found.{finds-bodies}
use Rattle.contents.proofs.Kept.{save-keeps}
use Rattle.body.specs.Body.{body_of}
use Rattle.body.specs.Examine.{steps_of, examined}
use Rattle.body.specs.Read.{body_read}
use Rattle.body.specs.Back.{Fitting}
use Rattle.body.specs.declared.examine.Record.{Record}
use Rattle.body.specs.declared.examine.BodyError.{BodyError}
use Rattle.body.proofs.Back.{read_back}
use Rattle.body.proofs.Passes.{passes}
use Rattle.store.specs.Restore.{of_record, restored_at, restored_from}
use Rattle.store.specs.Save.{is_resonant, of_saved, of_examined, stored, stored_file}
use Rattle.store.specs.Kept.{SaveRestores}
use Rattle.store.specs.declared.restore.RestoreError.{RestoreError}
use Rattle.store.specs.declared.restore.RestoreError.TheVariants.{SatelliteMissing}
use Rattle.store.specs.declared.save.StoreError.TheVariants as W
use Rattle.store.proofs.Answer.{Passed, passed}

-- ---- a restore from a file that is right goes by the body alone

abbrev of_bytes : Option (List ℕ) → Result Record RestoreError
of_bytes None = Err SatelliteMissing
of_bytes (Some b) = of_record (body_read b)

pub restored-body : (s : List ℕ) (x : ℕ) → contents_right s ≡ true → restored_from s x ≡ of_bytes (bytes_at s (found_in s x))
restored-body s x h = unfold restored_from in go (found_in s x) refl
  where
    go : (f : Result Span FindError) → found_in s x ≡ f → restored_at s f ≡ of_bytes (bytes_at s f)
    go (Err F.FileWrong) e =
        let k = finds-bodies s x h in
        let m : ◌≡◌ {A = Result Span FindError} (Err F.FileWrong) (Err F.SatelliteMissing) = sym e ∙ k.missing (sym k.body ∙ ap (bytes_at s) e) in
        cc
    go (Err F.SatelliteMissing) e = refl
    go (Ok p) e = refl

-- what was restored was read from a body
pub restored-read : (s : List ℕ) (x : ℕ) (r : Record) → restored_from s x ≡ Ok r → (b : List ℕ) × (body_read b ≡ Ok r)
restored-read s x r h = unfold restored_from in at (found_in s x) h
  where
    read : (b : List ℕ) (a : Result Record BodyError) → body_read b ≡ a → of_record a ≡ Ok r → (b : List ℕ) × (body_read b ≡ Ok r)
    read b (Err e) f g = cc
    read b (Ok q) f g = let e : q ≡ r = cc in (b, f ∙ ap Ok e)

    at : (f : Result Span FindError) → restored_at s f ≡ Ok r → (b : List ℕ) × (body_read b ≡ Ok r)
    at (Err e) g = cc
    at (Ok p) g = read (take p.size (drop p.offset s)) (body_read (take p.size (drop p.offset s))) refl g

-- ---- what an accepted save has tested

pub record Tested (s : List ℕ) (x : ℕ) (c : Constants) (z : Option ResonanceState) (room n : ℕ) : Type 0 where
  pub passed : Passed s c z
  pub examined : examined c z ≡ Ok (record { constants = c; state = z; steps = steps_of (examined c z) })
  pub saved : saved s x (body_of c z) room ≡ Ok n

-- past its examination a save is the file's
written : (c : Constants) (z : Option ResonanceState) (r : Result ℕ SaveError) (n : ℕ) → of_examined (examined c z) (of_saved r) ≡ Ok n
    → (examined c z ≡ Ok (record { constants = c; state = z; steps = steps_of (examined c z) })) × (r ≡ Ok n)
written c z r n h = go (examined c z) refl r h
  where
    go : (b : Result Record BodyError) → examined c z ≡ b → (r : Result ℕ SaveError) → of_examined b (of_saved r) ≡ Ok n
        → (examined c z ≡ Ok (record { constants = c; state = z; steps = steps_of (examined c z) })) × (r ≡ Ok n)
    go (Err f) e r k = cc
    go (Ok q) e (Err f) k = cc
    go (Ok q) e (Ok j) k =
        let p = passes c z q e in
        let f : examined c z ≡ Ok (record { constants = c; state = z; steps = q.steps }) =
        e ∙ ap (λ (d : Constants). Ok (record { constants = d; state = q.state; steps = q.steps })) p.constants
        ∙ ap (λ (y : Option ResonanceState). Ok (record { constants = c; state = y; steps = q.steps })) p.state in
        let i : j ≡ n = cc in
        (f ∙ sym (ap (λ (b : Result Record BodyError). Ok (record { constants = c; state = z; steps = steps_of b })) f), ap Ok i)

tested : (s : List ℕ) (x : ℕ) (c : Constants) (z : Option ResonanceState) (room n : ℕ) → stored s x c z room ≡ Ok n → Tested s x c z room n
tested s x c z room n h =
    go (is_some z && not (is_resonant c.resonant)) (not (is_some z) && is_resonant c.resonant) (contents_right s) refl refl refl
  where
    go : (p q r : Bool) → (is_some z && not (is_resonant c.resonant)) ≡ p → (not (is_some z) && is_resonant c.resonant) ≡ q → contents_right s ≡ r
        → Tested s x c z room n
    go true q r a b d =
        let e : stored s x c z room ≡ Err W.OrbitNonResonant = unfold stored in simp a in
        let w : ◌≡◌ {A = ℕ} 0 1 = cc in
        absurd (omega arith)
    go false true r a b d =
        let e : stored s x c z room ≡ Err W.NoState = unfold stored in simp (a, b) in
        let w : ◌≡◌ {A = ℕ} 0 1 = cc in
        absurd (omega arith)
    go false false false a b d =
        let e : stored s x c z room ≡ Err W.FileWrong = unfold stored in simp (a, b, d) in
        let w : ◌≡◌ {A = ℕ} 0 1 = cc in
        absurd (omega arith)
    go false false true a b d =
        let p : Passed s c z = record { not-four = a; not_five = b; right = d } in
        let k = written c z (saved s x (body_of c z) room) n (sym (passed s x c z room p) ∙ h) in
        record { passed = p; examined = k.0; saved = k.1 }

-- a state is given exactly where the orbit is resonant
fitting : (r : Resonant) (z : Option ResonanceState) → (is_some z && not (is_resonant r)) ≡ false → (not (is_some z) && is_resonant r) ≡ false → Fitting r z
fitting (No a0) None a b = tt
fitting (No a0) (Some z) a b = let w : ◌≡◌ {A = ℕ} 0 1 = cc in absurd (omega arith)
fitting (Yes lambda-0 lambda-dot-0 theta_0 r) None a b = let w : ◌≡◌ {A = ℕ} 0 1 = cc in absurd (omega arith)
fitting (Yes lambda-0 lambda-dot-0 theta_0 r) (Some z) a b = tt

pub save-restores : SaveRestores
save-restores s x c z room n bytes hx held h =
    let t = tested s x c z room n h in
    let k = save-keeps s x (body_of c z) room n bytes hx t.saved in
    let p = t.passed in
    let f = fitting c.resonant z p.not-four p.not_five in
    let again : stored (stored_file s x c z) x c z room ≡ Ok n =
    passed (stored_file s x c z) x c z room (record { not-four = p.not-four; not_five = p.not_five; right = k.right })
    ∙ ap (λ (r : Result ℕ SaveError). of_examined (examined c z) (of_saved r)) k.again_answer
    ∙ ap (λ (b : Result Record BodyError). of_examined b (Ok n)) t.examined in
    record {
      size = k.size;
      fits = k.fits;
      front = k.front;
      rest = k.rest;
      right = k.right;
      same = restored-body (stored_file s x c z) x k.right ∙ ap of_bytes k.finds ∙ ap of_record (read_back c z f held ∙ t.examined);
      others = λ y m. restored-body (stored_file s x c z) y k.right ∙ ap of_bytes (k.finds_others y m) ∙ sym (restored-body s y p.right);
      again = k.again;
      again_answer = again;
    }
