-- The laws of columns: what one byte decides, and how large a number of some digits is. Assumes nothing.
use Rattle.std.proofs.Common.{◌≡◌, refl, sym, ◌∙◌, ap, Bool, true, false, cond, not, ◌&&◌, List, [], ◌∷◌, ◌++◌, get_or, ℕ, suc, ◌+◌, ◌*◌, ◌-◌, ◌^◌, ◌<◌, ◌≤◌, length, take, drop, leb, ltb, eqb, Option, Some, None, option_map, is_some, sum_by, arith, slice_range, le_trans}
use Rattle.std.specs.Option.{option_or}
use Rattle.std.specs.List.{position, position_or_len, position_from}
use Rattle.std.proofs.lemmas.Iterator.Adapters.{position_from-zero}
use Rattle.std.proofs.lemmas.List.Sums.{sum_by-le}
use lib.Pow.{pow-add}
use native.Mathlib.Nat.{pow-suc, pow-le-pow_right, mul-le-mul_left, mul-le-mul_right, mul_comm, mul_assoc}
use native.Mathlib.Numerals.{add-one}
use lib.ListN.{drop_of_length-le, length-drop}
use lib.Seq.{take-suc, length-take-le, drop-cons}
use borrow.Author.Tests.{leb-true, ltb-true, ltb-false}
use Rattle.line.specs.Read.{blank, minus, nought, nine, among, digit_of, weight_of, first_not, not_padded, bad_field, bad_from, value_of, number_of}
use Rattle.line.specs.declared.fields.Field.{Field}

-- ---- tests

-- both sides of a test that holds
pub both : (a b : Bool) → (a && b) ≡ true → (a ≡ true) × (b ≡ true)
both true b h = (refl, h)
both false b h = cc

-- a choice of two numbers is below what both are
pub cond-most : (m a b : ℕ) (t : Bool) → (t ≡ true → a ≤ m) → b ≤ m → cond t a b ≤ m
cond-most m a b true h k = h refl
cond-most m a b false h k = k

pub ranging : (low high b : ℕ) → among low high b ≡ true → (low ≤ b) × (b ≤ high)
ranging low high b h = let p = both (leb low b) (leb b high) h in (leb-true _ _ p.0, leb-true _ _ p.1)

-- ---- the first bad column

-- the first byte that is not from low to high, wherever the count begins
first-from : (low high k j : ℕ) (bs : List ℕ)
    → option_map (λ (i : ℕ). k + i + 1) (position_from (λ (b : ℕ). not (among low high b)) j bs) ≡ first_not low high (k + j) bs
unfolding first_not
first-from low high k j [] = refl
first-from low high k j (b ∷ bs) = by (among low high b) (first-from low high k (j + 1) bs)
  where
    by : (t : Bool)
        → option_map (λ (i : ℕ). k + i + 1) (position_from (λ (b : ℕ). not (among low high b)) (j + 1) bs) ≡ first_not low high (k + (j + 1)) bs
        → option_map (λ (i : ℕ). k + i + 1) (cond (not t) (Some j) (position_from (λ (b : ℕ). not (among low high b)) (j + 1) bs)) ≡ cond t (first_not low high (suc (k + j)) bs) (Some (suc (k + j)))
    by true r = let e : k + (j + 1) ≡ suc (k + j) = omega arith in rw e at r
    by false r = ap Some (add-one (k + j))

pub first-is : (low high k : ℕ) (bs : List ℕ) → option_map (λ (i : ℕ). k + i + 1) (position (λ (b : ℕ). not (among low high b)) bs) ≡ first_not low high k bs
first-is low high k bs =
    let e : k + 0 ≡ k = omega arith in
    ap (option_map (λ (i : ℕ). k + i + 1)) (position_from-zero (λ (b : ℕ). not (among low high b)) bs)
    ∙ (rw e at (first-from low high k 0 bs))

abbrev no-blank : ℕ → Bool
no-blank b = not (among blank blank b)

among-one : (x b : ℕ) → eqb b x ≡ among x x b
among-one x b = grind arith

-- behind the blanks stand the digits
padded-is : (k : ℕ) (bs : List ℕ) → not_padded k bs ≡ first_not nought nine (k + position_or_len no-blank bs) (drop (position_or_len no-blank bs) bs)
unfolding not_padded first_not
padded-is k [] = refl
padded-is k (b ∷ bs) = rw (among-one blank b) (by (among blank blank b) (padded-is (suc k) bs))
  where
    by : (t : Bool)
        → not_padded (suc k) bs ≡ first_not nought nine (suc k + position_or_len no-blank bs) (drop (position_or_len no-blank bs) bs)
        → cond t (not_padded (suc k) bs) (first_not nought nine k (b ∷ bs)) ≡ first_not nought nine (k + cond (not (not t)) (1 + position_or_len no-blank bs) 0) (drop (cond (not (not t)) (1 + position_or_len no-blank bs) 0) (b ∷ bs))
    by true r =
        let n = position_or_len no-blank bs in
        let e : suc k + n ≡ k + (1 + n) = omega arith in
        let f : 1 + n ≡ suc n = omega arith in
        rw f (rw (e, f) at r)
    by false r = let e : k + 0 ≡ k = omega arith in rw e refl

none-past : (t : Bool) (n : ℕ) → cond t (Some n) None ≡ None → t ≡ false
none-past true n h = cc
none-past false n h = refl

some-at : (t : Bool) (n i : ℕ) → cond t (Some n) None ≡ Some i → n ≡ i
some-at true n i h = cc
some-at false n i h = cc

pub padded-none : (k : ℕ) (bs : List ℕ) → position no-blank bs ≡ None → not_padded k bs ≡ None
padded-none k bs h =
    let n = position_or_len no-blank bs in
    let e : drop n bs ≡ [] = drop_of_length-le bs {i = n} (ltb-false _ _ (none-past (ltb n (length bs)) n h)) in
    padded-is k bs ∙ ap (first_not nought nine (k + n)) e ∙ (unfold first_not in refl)

pub padded-some : (k : ℕ) (bs : List ℕ) (i : ℕ) → position no-blank bs ≡ Some i → not_padded k bs ≡ first_not nought nine (k + i) (drop i bs)
padded-some k bs i h =
    let n = position_or_len no-blank bs in
    let e : n ≡ i = some-at (ltb n (length bs)) n i h in
    padded-is k bs ∙ ap (λ (j : ℕ). first_not nought nine (k + j) (drop j bs)) e

-- ---- how large numbers are

pub digit-most : (b : ℕ) → digit_of b ≤ 9
unfolding digit_of
digit-most b = cond-most 9 (b - nought) 0 (among nought nine b) (λ h. omega (arith, ranging nought nine b h)) (omega arith)

pub weight-most : (b : ℕ) → weight_of b ≤ 9
unfolding weight_of
weight-most b = cond-most 9 1 (digit_of b) (eqb b minus) (λ h. omega arith) (digit-most b)

-- all the bytes that count
pub weights-most : (bs : List ℕ) → length bs ≤ 68 → sum_by weight_of bs ≤ 612
weights-most bs h =
    let m : sum_by weight_of bs ≤ length bs * 9 = sum_by-le weight_of 9 bs (λ k d h. weight-most _) in
    omega arith

pub value-more : (n : ℕ) (ds : List ℕ) (b : ℕ) → value_of n (ds ++ (b ∷ [])) ≡ 10 * value_of n ds + digit_of b
unfolding value_of
value-more n [] b = refl
value-more n (d ∷ ds) b = value-more (10 * n + digit_of d) ds b

-- no more than so many digits
pub digits-most : (n m : ℕ) → n ≤ m → 10 ^ n ≤ 10 ^ m
digits-most n m h = pow-le-pow_right (omega arith) h

-- one digit more takes ten times the room
pub more : (n d p : ℕ) → d ≤ 9 → (10 * n + d + 1) * p ≤ (n + 1) * (p * 10)
more n d p h =
    let a : (10 * n + d + 1) * p ≤ (10 * (n + 1)) * p = mul-le-mul_right p (omega arith) in
    let e : (10 * (n + 1)) * p ≡ (n + 1) * (p * 10) =
    ap (λ (x : ℕ). x * p) (mul_comm 10 (n + 1)) ∙ mul_assoc (n + 1) 10 p ∙ ap (λ (x : ℕ). (n + 1) * x) (mul_comm 10 p) in
    rw e at a

pub value-below : (n : ℕ) (bs : List ℕ) → value_of n bs + 1 ≤ (n + 1) * 10 ^ length bs
unfolding value_of
value-below n [] = omega arith
value-below n (b ∷ bs) =
    le_trans (value-below (10 * n + digit_of b) bs)
    (rw (pow-suc 10 (length bs)) (more n (digit_of b) (10 ^ length bs) (digit-most b)))

-- a digit more, read at its place
pub value-turn : (n i : ℕ) (bs : List ℕ) → i < length bs → value_of n (take (i + 1) bs) ≡ 10 * value_of n (take i bs) + digit_of (get_or bs i 0)
value-turn n i bs h =
    ap (value_of n) (ap (λ (j : ℕ). take j bs) (add-one i) ∙ take-suc bs i 0 h) ∙ value-more n (take i bs) (get_or bs i 0)

-- where there is room for all digits, there is room for one more of them
pub value-fits : (n i : ℕ) (bs : List ℕ) → i < length bs → (n + 1) * 10 ^ length bs ≤ 10 ^ 18 → 10 * value_of n (take i bs) + digit_of (get_or bs i 0) < 10 ^ 18
value-fits n i bs h k =
    let l : length (take (i + 1) bs) ≡ i + 1 = length-take-le (i + 1) bs (omega arith) in
    let v : value_of n (take (i + 1) bs) + 1 ≤ (n + 1) * 10 ^ (i + 1) = rw l at (value-below n (take (i + 1) bs)) in
    let m : (n + 1) * 10 ^ (i + 1) ≤ (n + 1) * 10 ^ length bs = mul-le-mul_left (n + 1) (digits-most (i + 1) (length bs) (omega arith)) in
    omega (arith, value-turn n i bs h)

-- ---- the table

-- what a field of the table has
pub record Shaped (f : Field) : Type 0 where
  pub from : 1 ≤ f.first
  pub inside : f.first ≤ f.point
  pub ends : f.point ≤ f.last + 1
  pub on : f.last ≤ 68
  pub short : f.last - f.first ≤ 10

pub shapes : (f : Field) → Shaped f
shapes f =
    let p1 = both (leb 1 f.first) _ f.shape in
    let p2 = both (leb f.first f.point) _ p1.1 in
    let p3 = both (leb f.point (f.last + 1)) _ p2.1 in
    let p4 = both (leb f.last 68) _ p3.1 in
    record {
      from = leb-true _ _ p1.0;
      inside = leb-true _ _ p2.0;
      ends = leb-true _ _ p3.0;
      on = leb-true _ _ p4.0;
      short = leb-true _ _ p4.1;
    }

-- each field begins behind the blank that follows the one before
abbrev pub ordered : ℕ → List Field → Bool
ordered before [] = true
ordered before (f ∷ fs) = ltb before f.first && ordered f.last fs

-- the fields from the i-th on, by that field
module _ (before i : ℕ) (fs : List Field) (d : Field) (h : i < length fs) where
  pub ordered-turn : ordered before (drop i fs) ≡ true → (before < (get_or fs i d).first) × (ordered (get_or fs i d).last (drop (i + 1) fs) ≡ true)
  ordered-turn o =
      let p = both (ltb before (get_or fs i d).first) (ordered (get_or fs i d).last (drop (suc i) fs)) (rw (drop-cons fs i d h) at o) in
      (ltb-true _ _ p.0, rw (add-one i) p.1)

  pub bad-turn : (s : List ℕ) → bad_from before (drop i fs) s ≡ option_or (bad_field before (get_or fs i d) s) (bad_from (get_or fs i d).last (drop (i + 1) fs) s)
  unfolding bad_from
  bad-turn s = rw (add-one i, drop-cons fs i d h) refl

pub bad-done : (before i : ℕ) (fs : List Field) (s : List ℕ) → length fs ≤ i → bad_from before (drop i fs) s ≡ None
unfolding bad_from
bad-done before i fs s h = rw (drop_of_length-le fs {i = i} h) refl

-- what was found decides
pub found : (b o p : Option ℕ) → b ≡ o → true ≡ is_some b → option_or o p ≡ b
found b (Some k) p e h = sym e
found b None p e h = cc

pub passed : (b o p : Option ℕ) → b ≡ o → false ≡ is_some b → option_or o p ≡ p
passed b (Some k) p e h = cc
passed b None p e h = refl

-- how many digits a field has
abbrev pub places : Field → ℕ
places f = (f.point - f.first) + (f.last - f.point)

pub length-range : (s : List ℕ) (a b : ℕ) → b ≤ length s → length (slice_range s a b) ≡ b - a
length-range s a b h = length-take-le (b - a) (drop a s) (omega (arith, length-drop a s))

module _ (f : Field) (s : List ℕ) (n : length s ≡ 69) where
  -- the digits before the point leave room for those behind it
  pub whole_room : (value_of 0 (slice_range s (f.first - 1) (f.point - 1)) + 1) * 10 ^ (f.last - f.point) ≤ 10 ^ places f
  whole_room =
      let p = shapes f in
      let v = value-below 0 (slice_range s (f.first - 1) (f.point - 1)) in
      let l : length (slice_range s (f.first - 1) (f.point - 1)) ≡ f.point - f.first =
      length-range s (f.first - 1) (f.point - 1) (omega arith) ∙ omega arith in
      let w : value_of 0 (slice_range s (f.first - 1) (f.point - 1)) + 1 ≤ 10 ^ (f.point - f.first) = omega (arith, rw l at v) in
      rw (pow-add 10 (f.point - f.first) (f.last - f.point)) (mul-le-mul_right (10 ^ (f.last - f.point)) w)

  pub number-below : number_of f s + 1 ≤ 10 ^ places f
  unfolding number_of
  number-below =
      let p = shapes f in
      let l : length (slice_range s f.point f.last) ≡ f.last - f.point = length-range s f.point f.last (omega arith) in
      le_trans (value-below (value_of 0 (slice_range s (f.first - 1) (f.point - 1))) (slice_range s f.point f.last)) (rw l whole_room)
