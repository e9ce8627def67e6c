-- What a save keeps: an accepted save kept to its limits, so the new file gives its records back. Assumes nothing.
use mathlib.Core.Path.{◌≡◌, refl, sym, ap, ◌∙◌}
use mathlib.Core.Bool.{Bool, true, false}
use mathlib.Core.List.{List}
use Prim.Native.Nat.{ℕ, ◌+◌, ◌^◌, ◌<◌, ◌≤◌}
use native.Mathlib.Omega.{arith}
use borrow.Author.Tests.{leb-true, leb-false, ltb-true, ltb-false}
use lib.Dec.{leb, ltb}
use lib.ListN.{length, drop}
use lib.Seq.{get_or-drop, take_at, drop_at}
use Rattle.contents.specs.Format.{most, count, contents_end, entries_of, contents_right}
use Rattle.contents.specs.Records.{Rec, records_of, body_among, body_in, put, file_of}
use Rattle.contents.specs.Find.{found_in, bytes_at}
use Rattle.contents.specs.Save.{saved_records, saved_file, saved}
use Rattle.contents.specs.Kept.{SaveKeeps}
use Rattle.std.specs.Prelude.{Ok}
use Rattle.contents.proofs.format.Laws.{right}
use Rattle.contents.proofs.save.Answer.{is-wrong, too_many, too_long, no_room, is-written}
use Rattle.contents.proofs.Found.{finds-bodies}
use Rattle.contents.proofs.Records.{put-new, put_other, put-twice, put_small, put-ascending, entries-small, chained-ascending, records-file, right-file}

-- what an accepted save has tested
pub record Accepted (s : List ℕ) (x : ℕ) (b : List ℕ) (room n : ℕ) : Type 0 where
  pub right : contents_right s ≡ true
  pub few : length (saved_records s x b) ≤ most
  pub short : length (saved_file s x b) < 2 ^ 32
  pub size : length (saved_file s x b) ≡ n
  pub fits : n ≤ room

pub accepted : (s : List ℕ) (x : ℕ) (b : List ℕ) (room n : ℕ) → saved s x b room ≡ Ok n → Accepted s x b room n
accepted s x b room n h =
    go (contents_right s) (leb (length (saved_records s x b)) most) (ltb (length (saved_file s x b)) (2 ^ 32)) (leb (length (saved_file s x b)) room) refl refl refl refl
  where
    go : (p q r t : Bool) → contents_right s ≡ p → leb (length (saved_records s x b)) most ≡ q → ltb (length (saved_file s x b)) (2 ^ 32) ≡ r
        → leb (length (saved_file s x b)) room ≡ t → Accepted s x b room n
    go true true true true p q r t =
        let k = is-written s x b room p (leb-true _ _ q) (ltb-true _ _ r) (leb-true _ _ t) in
        let l : length (saved_file s x b) ≤ room = leb-true _ _ t in
        let e : length (saved_file s x b) ≡ n = cc in
        record { right = p; few = leb-true _ _ q; short = ltb-true _ _ r; size = e; fits = omega arith }
    go true true true false p q r t =
        let k = no_room s x b room p (leb-true _ _ q) (ltb-true _ _ r) (leb-false _ _ t) in
        let z : ◌≡◌ {A = ℕ} 0 1 = cc in absurd (omega arith)
    go true true false t p q r u =
        let k = too_long s x b room p (leb-true _ _ q) (ltb-false _ _ r) in
        let z : ◌≡◌ {A = ℕ} 0 1 = cc in absurd (omega arith)
    go true false r t p q v u =
        let k = too_many s x b room p (leb-false _ _ q) in
        let z : ◌≡◌ {A = ℕ} 0 1 = cc in absurd (omega arith)
    go false q r t p v w u =
        let k = is-wrong s x b room p in
        let z : ◌≡◌ {A = ℕ} 0 1 = cc in absurd (omega arith)

-- the same save into a file that is right and has the new records
answer-again : (s t : List ℕ) (x : ℕ) (b : List ℕ) (room : ℕ) → contents_right s ≡ true → contents_right t ≡ true → saved_records t x b ≡ saved_records s x b
    → saved t x b room ≡ saved s x b room
unfolding saved
answer-again s t x b room h k e = simp (h, k, e)

pub save-keeps : SaveKeeps
save-keeps s x b room n bytes hx h =
    let r : Rec = record { satellite = x; body = b } in
    let a = accepted s x b room n h in
    let k = right s a.right in
    let small = put_small r (records_of s) hx (entries-small (drop 8 s) (λ i. rw get_or-drop (bytes (8 + i))) s (count s)) in
    let asc = put-ascending r (records_of s) 0 (omega arith) (chained-ascending s (length s) 0 (contents_end (count s)) (entries_of s) k.chain) in
    let read = records-file (saved_records s x b) a.few small a.short in
    let new-right = right-file (saved_records s x b) a.few small a.short asc in
    let twice : saved_records (saved_file s x b) x b ≡ saved_records s x b = ap (put r) read ∙ put-twice r (records_of s) in
    let found : (y : ℕ) → bytes_at (saved_file s x b) (found_in (saved_file s x b) y) ≡ body_in (saved_file s x b) y =
    λ y. (finds-bodies (saved_file s x b) y new-right).body in
    let news = ap (body_among x) read ∙ put-new r (records_of s) in
    let other : (y : ℕ) → (y ≡ x → ⊥) → body_in (saved_file s x b) y ≡ body_in s y =
    λ y m. ap (body_among y) read ∙ put_other r y m (records_of s) in
    record {
      size = a.size;
      fits = a.fits;
      front = λ out. take_at (saved_file s x b) _ n a.size;
      rest = λ out. drop_at (saved_file s x b) _ n a.size;
      right = new-right;
      records = read;
      new = news;
      others = other;
      finds = found x ∙ news;
      finds_others = λ y m. found y ∙ other y m ∙ sym (finds-bodies s y a.right).body;
      missing =
          λ y m f. (finds-bodies (saved_file s x b) y new-right).missing
          (other y m ∙ sym (finds-bodies s y a.right).body ∙ ap (bytes_at s) f);
      again = ap file_of twice;
      again_answer = answer-again s (saved_file s x b) x b room a.right new-right twice ∙ h;
    }
