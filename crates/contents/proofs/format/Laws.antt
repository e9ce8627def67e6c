-- The laws of the contents: the entries from an offset on are the entry there and the rest, and what one entry decides. Assumes nothing.
use mathlib.Core.Path.{◌≡◌, refl, ◌∙◌}
use mathlib.Core.Bool.{Bool, true, false, ◌&&◌}
use mathlib.Core.List.{List, [], ◌∷◌}
use Prim.Native.Nat.{ℕ, zero, suc, ◌+◌, ◌*◌, ◌-◌, ◌<◌, ◌≤◌}
use native.Mathlib.Numerals.{add-one, sub-one}
use native.Mathlib.Omega.{arith}
use borrow.Author.Tests.{leb-true, eqb-true}
use lib.ListN.{length, drop}
use lib.Seq.{drop-drop}
use lib.Dec.{eqb, leb}
use Rattle.contents.specs.LittleEndian.{le}
use Rattle.contents.specs.declared.format.Entry.{Entry}
use Rattle.contents.specs.Format.{magic, version, most, entry_of, entries, follows, chained, count, contents_end, entries_of, header_right, contents_right}

entries_more : (left : ℕ) (s : List ℕ) (at : ℕ) {e : Entry} → 0 < left → e ≡ entry_of (drop at s)
    → entries left (drop at s) ≡ e ∷ entries (left - 1) (drop (at + 12) s)
unfolding entries
entries_more zero s at h p = absurd (omega arith)
entries_more (suc k) s at h p = simp (p, sub-one, drop-drop)

-- of n entries i are passed, and the next is entry q of the file: those left are that one, and those past it
pub entries-next : (n i q : ℕ) (s : List ℕ) {e : Entry} → i < n → e ≡ entry_of (drop (contents_end q) s)
    → entries (n - i) (drop (contents_end q) s) ≡ e ∷ entries (n - (i + 1)) (drop (contents_end (q + 1)) s)
entries-next n i q s h e =
    let a : n - i - 1 ≡ n - (i + 1) = omega arith in
    let b : 8 + 12 * q + 12 ≡ 8 + 12 * (q + 1) = omega arith in
    entries_more (n - i) s (contents_end q) (omega arith) e ∙ simp (a, b)

module _ (end least at : ℕ) (e : Entry) (es : List Entry) where
  -- an entry that may not follow decides
  pub chained-broken : follows least at e ≡ false → chained end least at (e ∷ es) ≡ false
  unfolding chained
  chained-broken h = simp h

  -- after one that may, the rest does
  pub chained-next : follows least at e ≡ true → chained end least at (e ∷ es) ≡ chained end (e.satellite + 1) (at + e.size) es
  unfolding chained
  chained-next h = simp (h, add-one)

-- with no entry left, the last body's end decides
pub chained-end : (end least at left : ℕ) (s : List ℕ) → left ≤ 0 → chained end least at (entries left s) ≡ chained end least at []
unfolding entries
chained-end end least at zero s h = refl
chained-end end least at (suc k) s h = absurd (omega arith)

-- both sides of a test that holds
pub both : (a b : Bool) → (a && b) ≡ true → (a ≡ true) × (b ≡ true)
both true b h = (refl, h)
both false b h = let z : ◌≡◌ {A = ℕ} 0 1 = cc in absurd (omega arith)

-- what an entry has that may follow
pub follows-parts : (least at : ℕ) (e : Entry) → follows least at e ≡ true → (least ≤ e.satellite) × (e.offset ≡ at)
unfolding follows
follows-parts least at e h = let p = both (leb least e.satellite) (eqb e.offset at) h in (leb-true _ _ p.0, eqb-true _ _ p.1)

-- the first four bytes, as a number
pub magic-number : le 4 magic ≡ 0x5442_524F
unfolding le
magic-number = refl

-- what a header has that is right
pub record Headed (s : List ℕ) : Type 0 where
  pub long : 8 ≤ length s
  pub magical : le 4 s ≡ le 4 magic
  pub versioned : le 2 (drop 4 s) ≡ version
  pub few : count s ≤ most

pub headed : (s : List ℕ) → header_right s ≡ true → Headed s
unfolding header_right
headed s h =
    let p1 = both (leb 8 (length s)) _ h in
    let p2 = both (eqb (le 4 s) (le 4 magic)) _ p1.1 in
    let p3 = both (eqb (le 2 (drop 4 s)) version) _ p2.1 in
    record { long = leb-true _ _ p1.0; magical = eqb-true _ _ p2.0; versioned = eqb-true _ _ p3.0; few = leb-true _ _ p3.1 }

-- what a file has that is right
pub record Right (s : List ℕ) : Type 0 where
  pub head : header_right s ≡ true
  pub long : 8 ≤ length s
  pub few : count s ≤ most
  pub inside : contents_end (count s) ≤ length s
  pub chain : chained (length s) 0 (contents_end (count s)) (entries_of s) ≡ true

pub right : (s : List ℕ) → contents_right s ≡ true → Right s
unfolding contents_right
right s h =
    let p = both (header_right s) _ h in
    let q = both (leb (contents_end (count s)) (length s)) _ p.1 in
    let k = headed s p.0 in
    record { head = p.0; long = k.long; few = k.few; inside = leb-true _ _ q.0; chain = q.1 }
