-- A search gives the body of the record, and inside the file: both by the entry that it stops at. Assumes nothing.
use mathlib.Core.Path.{◌≡◌, refl, sym, ap, ◌∙◌, subst}
use mathlib.Core.Bool.{Bool, true, false, cond}
use mathlib.Core.List.{List, [], ◌∷◌, map}
use Rattle.std.specs.Prelude.{Option, Some, None, Result, Ok, Err, ok_or}
use Prim.Native.Nat.{ℕ, suc, ◌+◌, ◌≤◌}
use native.Mathlib.Omega.{arith}
use lib.Dec.{eqb}
use lib.ListN.{length, take, drop}
use Rattle.contents.specs.Format.{most, chained, count, contents_end, entries_of, contents_right, file_wrong}
use Rattle.contents.specs.Records.{record_of, body_among}
use Rattle.contents.specs.Find.{sought, found_in, bytes_at, counted_in, FindsBodies, FoundAt, FoundInside}
use Rattle.contents.specs.declared.format.Entry.{Entry}
use Rattle.contents.specs.declared.find.Span.{Span}
use Rattle.contents.specs.declared.find.FindError.{FindError}
use Rattle.contents.specs.declared.find.FindError.TheVariants.{FileWrong, SatelliteMissing}
use Rattle.contents.proofs.format.Laws.{right}
use Rattle.contents.specs.declared.format.FileWrong as F
use Rattle.contents.proofs.save.Split.{tests, chain}

sought-body : (s : List ℕ) (x : ℕ) (es : List Entry) → bytes_at s (ok_or (sought x es) SatelliteMissing) ≡ body_among x (map (record_of s) es)
unfolding sought body_among
sought-body s x [] = refl
sought-body s x (e ∷ es) = pick (eqb e.satellite x) (sought-body s x es)
  where
    pick : (t : Bool) → bytes_at s (ok_or (sought x es) SatelliteMissing) ≡ body_among x (map (record_of s) es)
        → bytes_at s (ok_or (cond t (Some (record { offset = e.offset; size = e.size })) (sought x es)) SatelliteMissing)
        ≡ cond t (Some (take e.size (drop e.offset s))) (body_among x (map (record_of s) es))
    pick true h = refl
    pick false h = h

-- no record, no body
sought-missing : (s : List ℕ) (x : ℕ) (es : List Entry) → body_among x (map (record_of s) es) ≡ None → sought x es ≡ None
unfolding sought body_among
sought-missing s x [] h = refl
sought-missing s x (e ∷ es) h = pick (eqb e.satellite x) (sought-missing s x es) h
  where
    pick : (t : Bool) → (body_among x (map (record_of s) es) ≡ None → sought x es ≡ None)
        → cond t (Some (take e.size (drop e.offset s))) (body_among x (map (record_of s) es)) ≡ None
        → cond t (Some (record { offset = e.offset; size = e.size })) (sought x es) ≡ None
    pick true i k = cc
    pick false i k = i k

-- where a body ends that was found
abbrev reach : Option Span → ℕ
reach None = 0
reach (Some p) = p.offset + p.size

sought-inside : (s : List ℕ) (x : ℕ) (es : List Entry) (least at : ℕ) → chained (length s) least at es ≡ true → reach (sought x es) ≤ length s
unfolding sought
sought-inside s x [] least at h = omega arith
sought-inside s x (e ∷ es) least at h =
    let t = tests (length s) least at e es h in
    let i = (chain s es (suc e.satellite) (at + e.size) t.1).inside in
    let o = t.0 in
    pick (eqb e.satellite x) (omega arith) (sought-inside s x es (suc e.satellite) (at + e.size) t.1)
  where
    pick : (u : Bool) → e.offset + e.size ≤ length s → reach (sought x es) ≤ length s
        → reach (cond u (Some (record { offset = e.offset; size = e.size })) (sought x es)) ≤ length s
    pick true i h = i
    pick false i h = h

-- a search in a file that is right, and in another
in_right : (s : List ℕ) (x : ℕ) → contents_right s ≡ true → found_in s x ≡ ok_or (sought x (entries_of s)) SatelliteMissing
unfolding found_in
in_right s x h = simp h

in-wrong : (s : List ℕ) (x : ℕ) → contents_right s ≡ false → found_in s x ≡ Err FileWrong
unfolding found_in
in-wrong s x h = simp h

pub finds-bodies : FindsBodies
finds-bodies s x h =
    let e = in_right s x h in
    record { body = ap (bytes_at s) e ∙ sought-body s x (entries_of s); missing = λ k. e ∙ ap (λ (o : Option Span). ok_or o SatelliteMissing) (sought-missing s x (entries_of s) k) }

-- what was sought, of what was found
of-found : (o : Option Span) (p : Span) → ◌≡◌ {A = Result Span FindError} (ok_or o SatelliteMissing) (Ok p) → o ≡ Some p
of-found None p h = cc
of-found (Some q) p h = cc

pub found_inside : FoundInside
found_inside s x o n h = go (contents_right s) refl
  where
    go : (t : Bool) → contents_right s ≡ t → FoundAt s x o n
    go true k =
        record {
          right = k;
          inside =
              subst (λ (f : Option Span). reach f ≤ length s) (of-found (sought x (entries_of s)) _ (sym (in_right s x k) ∙ h))
              (sought-inside s x (entries_of s) 0 (contents_end (count s)) (right s k).chain);
          body = sym (finds-bodies s x k).body ∙ ap (bytes_at s) h;
        }
    go false k = let w = in-wrong s x k in let z : ◌≡◌ {A = ℕ} 0 1 = cc in absurd (omega arith)

-- a count that was answered is small
pub counted-most : (s : List ℕ) (n : ℕ) → counted_in s ≡ Ok n → n ≤ most
unfolding counted_in
counted-most s n h = go (contents_right s) refl
  where
    go : (t : Bool) → contents_right s ≡ t → n ≤ most
    go true e =
        let k : ◌≡◌ {A = Result ℕ F.FileWrong} (Ok (count s)) (Ok n) = sym (simp e) ∙ h in
        let m : count s ≡ n = cc in
        let f = (right s e).few in
        omega arith
    go false e = let k : ◌≡◌ {A = Result ℕ F.FileWrong} (Err file_wrong) (Ok n) = sym (simp e) ∙ h in cc
