-- The records of a file that is right, parted at the place of a satellite. Assumes nothing.
use mathlib.Core.Path.{◌≡◌, refl, sym, ap, ◌∙◌}
use mathlib.Core.Bool.{Bool, true, false}
use mathlib.Core.List.{List, [], ◌∷◌, ◌++◌, map}
use Prim.Native.Nat.{ℕ, zero, suc, ◌+◌, ◌-◌, ◌≤◌}
use native.Mathlib.Nat.{sub_self, suc-add, add-zero}
use native.Mathlib.Omega.{arith}
use borrow.Author.Tests.{eqb-true}
use lib.Dec.{eqb, ltb}
use lib.ListN.{length, take, drop, length-drop, take-append-drop, drop_of_length-le}
use lib.Seq.{length-take-le, drop-drop, take-add}
use Rattle.contents.specs.Format.{follows, chained}
use Rattle.contents.specs.Records.{Rec, record_of, put, bodies}
use Rattle.contents.specs.Table.{place_of}
use Rattle.contents.specs.declared.format.Entry.{Entry}
use Rattle.contents.specs.declared.save.Place.{Place}
use Rattle.contents.proofs.format.Laws.{both, follows-parts}

-- each entry's body has the entry's length
abbrev pub Sized : List ℕ → List Entry → Type 0
Sized s [] = Unit {0}
Sized s (e ∷ es) = (length (take e.size (drop e.offset s)) ≡ e.size) × Sized s es

pub take-sized : (n : ℕ) (s : List ℕ) (es : List Entry) → Sized s es → Sized s (take n es)
take-sized zero s es h = tt
take-sized (suc n) s [] h = tt
take-sized (suc n) s (e ∷ es) h = (h.0, take-sized n s es h.1)

pub drop-sized : (n : ℕ) (s : List ℕ) (es : List Entry) → Sized s es → Sized s (drop n es)
drop-sized zero s es h = h
drop-sized (suc n) s [] h = tt
drop-sized (suc n) s (e ∷ es) h = drop-sized n s es h.1

-- what entries have whose bodies are chained from `at` to the end of the file
pub record Chained (s : List ℕ) (at : ℕ) (es : List Entry) : Type 0 where
  pub inside : at ≤ length s
  pub sized : Sized s es
  pub whole : bodies (map (record_of s) es) ≡ drop at s

chain-cons : (s : List ℕ) (at : ℕ) (e : Entry) (es : List Entry) → e.offset ≡ at → Chained s (at + e.size) es → Chained s at (e ∷ es)
unfolding bodies
chain-cons s at e es o r =
    let i = r.inside in
    record {
      inside = omega arith;
      sized = (length-take-le e.size (drop e.offset s) (simp length-drop (omega arith)), r.sized);
      whole =
          ap (λ (t : List ℕ). take e.size (drop e.offset s) ++ t) (r.whole ∙ sym (drop-drop e.size at s))
          ∙ ap (λ (k : ℕ). take e.size (drop k s) ++ drop e.size (drop at s)) o
          ∙ take-append-drop e.size (drop at s);
    }

-- the tests of an entry that is chained
pub tests : (end least at : ℕ) (e : Entry) (es : List Entry) → chained end least at (e ∷ es) ≡ true
    → (e.offset ≡ at) × (chained end (suc e.satellite) (at + e.size) es ≡ true)
unfolding chained
tests end least at e es h =
    let p = both (follows least at e) _ h in
    ((follows-parts least at e p.0).1, p.1)

pub chain : (s : List ℕ) (es : List Entry) (least at : ℕ) → chained (length s) least at es ≡ true → Chained s at es
unfolding chained bodies
chain s [] least at h =
    let e : at ≡ length s = eqb-true _ _ h in
    record { inside = omega arith; sized = tt; whole = sym (drop_of_length-le s {i = at} (omega arith)) }
chain s (e ∷ es) least at h =
    let t = tests (length s) least at e es h in
    chain-cons s at e es t.0 (chain s es (suc e.satellite) (at + e.size) t.1)

-- ---- the parts

module _ (s : List ℕ) (new : Rec) where
  -- the records with one put among them: those of the first `skip` entries, the new one, and those past the old one
  pub record Split (es : List Entry) (i at : ℕ) (p : Place) (rs : List Rec) : Type 0 where
    pub skip : ℕ
    pub below : p.below ≡ i + skip
    pub single : p.old ≤ 1
    pub fits : skip + p.old ≤ length es
    pub records : rs ≡ map (record_of s) (take skip es) ++ (new ∷ map (record_of s) (drop (skip + p.old) es))
    pub before : bodies (map (record_of s) (take skip es)) ≡ take (p.cut - at) (drop at s)
    pub after : bodies (map (record_of s) (drop (skip + p.old) es)) ≡ drop p.rest s
    pub from : at ≤ p.cut
    pub to : p.cut ≤ p.rest
    pub end : p.rest ≤ length s

  -- nothing is below, and nothing is replaced
  split-front : (es : List Entry) (i at : ℕ) → Chained s at es
      → Split es i at (record { below = i; cut = at; old = 0; rest = at }) (new ∷ map (record_of s) es)
  unfolding bodies
  split-front es i at r =
      let h = r.inside in
      record {
        skip = 0;
        below = sym (add-zero i);
        single = omega arith;
        fits = omega arith;
        records = refl;
        before = simp sub_self;
        after = r.whole;
        from = omega arith;
        to = omega arith;
        end = omega arith;
      }

  split-here : (e : Entry) (es : List Entry) (i at : ℕ) → Chained s (at + e.size) es
      → Split (e ∷ es) i at (record { below = i; cut = at; old = 1; rest = at + e.size }) (new ∷ map (record_of s) es)
  unfolding bodies
  split-here e es i at r =
      let h = r.inside in
      record {
        skip = 0;
        below = sym (add-zero i);
        single = omega arith;
        fits = omega arith;
        records = refl;
        before = simp sub_self;
        after = r.whole;
        from = omega arith;
        to = omega arith;
        end = omega arith;
      }

  split-past : (e : Entry) (es : List Entry) (i at : ℕ) (p : Place) (rs : List Rec) → e.offset ≡ at
      → Split es (i + 1) (at + e.size) p rs → Split (e ∷ es) i at p (record_of s e ∷ rs)
  unfolding bodies
  split-past e es i at p rs o r =
      let f = r.from in
      let k : p.cut - at ≡ e.size + (p.cut - (at + e.size)) = omega arith in
      record {
        skip = suc r.skip;
        below = let h = r.below in omega arith;
        single = r.single;
        fits = let h = r.fits in omega arith;
        records = simp (suc-add, r.records);
        before =
            ap (λ (t : List ℕ). take e.size (drop e.offset s) ++ t) r.before
            ∙ simp (o, k, take-add, drop-drop);
        after = simp suc-add r.after;
        from = omega arith;
        to = r.to;
        end = r.end;
      }

  -- `put` and the place agree
  pick : (e : Entry) (es : List Entry) (i at : ℕ) (t u : Bool) → ltb new.satellite e.satellite ≡ t → eqb new.satellite e.satellite ≡ u
      → e.offset ≡ at → Chained s (at + e.size) es
      → Split es (i + 1) (at + e.size) (place_of new.satellite (i + 1) (at + e.size) es) (put new (map (record_of s) es))
      → Split (e ∷ es) i at (place_of new.satellite i at (e ∷ es)) (put new (map (record_of s) (e ∷ es)))
  unfolding place_of put
  pick e es i at true u h k o r q = simp h (split-front (e ∷ es) i at (chain-cons s at e es o r))
  pick e es i at false true h k o r q = simp (h, k) (split-here e es i at r)
  pick e es i at false false h k o r q = simp (h, k) (split-past e es i at _ _ o q)

  pub split : (es : List Entry) (least i at : ℕ) → chained (length s) least at es ≡ true
      → Split es i at (place_of new.satellite i at es) (put new (map (record_of s) es))
  unfolding place_of put
  split [] least i at h = split-front [] i at (chain s [] least at h)
  split (e ∷ es) least i at h =
      let t = tests (length s) least at e es h in
      pick e es i at _ _ refl refl t.0 (chain s es (suc e.satellite) (at + e.size) t.1) (split es (suc e.satellite) (i + 1) (at + e.size) t.1)
