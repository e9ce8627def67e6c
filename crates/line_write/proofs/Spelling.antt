-- A number in its columns is read as that number: the laws of digits that are written and read. Assumes nothing.
use mathlib.Core.Path.{◌≡◌, refl, sym, ◌∙◌, ap}
use mathlib.Core.Bool.{Bool, true, false, cond, ◌&&◌}
use mathlib.Core.Logic.{◌⊎◌, inl, inr}
use mathlib.Core.List.{List, [], ◌∷◌, ◌++◌}
use Prim.Native.Nat.{ℕ, zero, suc, ◌+◌, ◌*◌, ◌-◌, ◌/◌, ◌%◌, ◌^◌, ◌<◌, ◌≤◌}
use native.Mathlib.Nat.{pow-succ', one-le-pow, div-div-eq-div-mul, div-one, div-eq_of_lt, div-lt_iff_lt-mul}
use native.Mathlib.Omega.{arith}
use borrow.Author.Tests.{ltb-true, eqb-true, eq-eqb, le-leb, lt-ltb}
use Rattle.std.specs.Prelude.{Option, Some, None, slice_range}
use lib.Dec.{ltb, leb, eqb}
use lib.Pow.{pow-add}
use Rattle.line.specs.Fields.{column}
use Rattle.line.specs.Read.{blank, dot, nought, nine, among, digit_of, first_not, not_padded, bad_fraction, bad_field, value_of, number_of}
use Rattle.line.specs.declared.fields.Field.{Field}
use Rattle.line.proofs.Laws.{both, ranging, value-more}
use Rattle.line_write.specs.Write.{byte_of, padded}

-- ---- one byte

-- a blank, with what that takes, or a digit
pub record Blank (may : Bool) (x : ℕ) : Type 0 where
  pub allowed : may ≡ true
  pub none : x ≡ 0
  pub is : byte_of may x ≡ blank

pub record Digit (may : Bool) (x : ℕ) : Type 0 where
  pub is : byte_of may x ≡ nought + x % 10
  pub plain : among nought nine (nought + x % 10) ≡ true
  pub right : among nought nine (byte_of may x) ≡ true

pub byte-is : (may : Bool) (x : ℕ) → Blank may x ⊎ Digit may x
byte-is may x = by (may && eqb x 0) refl
  where
    by : (b : Bool) → (may && eqb x 0) ≡ b → Blank may x ⊎ Digit may x
    by true h =
        let p = both may (eqb x 0) h in
        inl (record { allowed = p.0; none = eqb-true x 0 p.1; is = (unfold byte_of in simp h) })
    by false h =
        let e : byte_of may x ≡ nought + x % 10 = (unfold byte_of in simp h) in
        let r : among nought nine (nought + x % 10) ≡ true =
        simp (le-leb nought (nought + x % 10) (omega arith), le-leb (nought + x % 10) nine (omega arith)) in
        inr (record { is = e; plain = r; right = ap (among nought nine) e ∙ r })

-- ---- one byte more at the end

first_more : (low high c : ℕ) (ds : List ℕ) (b : ℕ) → first_not low high c ds ≡ None → among low high b ≡ true → first_not low high c (ds ++ (b ∷ [])) ≡ None
unfolding first_not
first_more low high c [] b h k = simp k
first_more low high c (d ∷ ds) b h k = by (among low high d) refl (λ r. first_more low high (suc c) ds b r k)
  where
    by : (t : Bool) → among low high d ≡ t
        → (first_not low high (suc c) ds ≡ None → first_not low high (suc c) (ds ++ (b ∷ [])) ≡ None)
        → cond (among low high d) (first_not low high (suc c) (ds ++ (b ∷ []))) (Some (suc c)) ≡ None
    by true e r = simp e (r (simp e at h))
    by false e r = let z : ◌≡◌ {A = Option ℕ} (Some (suc c)) None = simp e at h in cc

padded-more : (c : ℕ) (ds : List ℕ) (b : ℕ) → not_padded c ds ≡ None → among nought nine b ≡ true → not_padded c (ds ++ (b ∷ [])) ≡ None
unfolding not_padded
padded-more c [] b h k = by (eqb b blank) refl
  where
    by : (t : Bool) → eqb b blank ≡ t → cond (eqb b blank) (not_padded (suc c) []) (first_not nought nine c (b ∷ [])) ≡ None
    by true e = simp e
    by false e = simp e (first_more nought nine c [] b (unfold first_not in refl) k)
padded-more c (d ∷ ds) b h k = by (eqb d blank) refl (λ r. padded-more (suc c) ds b r k)
  where
    by : (t : Bool) → eqb d blank ≡ t
        → (not_padded (suc c) ds ≡ None → not_padded (suc c) (ds ++ (b ∷ [])) ≡ None)
        → cond (eqb d blank) (not_padded (suc c) (ds ++ (b ∷ []))) (first_not nought nine c (d ∷ (ds ++ (b ∷ [])))) ≡ None
    by true e r = simp e (r (simp e at h))
    by false e r = simp e (first_more nought nine c (d ∷ ds) b (simp e at h) k)

blanks-more : (c : ℕ) (ds : List ℕ) → first_not blank blank c ds ≡ None → not_padded c (ds ++ (blank ∷ [])) ≡ None
unfolding not_padded first_not
blanks-more c [] h = refl
blanks-more c (d ∷ ds) h = by (among blank blank d) refl (λ r. blanks-more (suc c) ds r)
  where
    by : (t : Bool) → among blank blank d ≡ t
        → (first_not blank blank (suc c) ds ≡ None → not_padded (suc c) (ds ++ (blank ∷ [])) ≡ None)
        → cond (eqb d blank) (not_padded (suc c) (ds ++ (blank ∷ []))) (first_not nought nine c (d ∷ (ds ++ (blank ∷ [])))) ≡ None
    by true e r =
        let p = ranging blank blank d e in
        simp (eq-eqb d blank (omega arith)) (r (simp e at h))
    by false e r = let z : ◌≡◌ {A = Option ℕ} (Some (suc c)) None = simp e at h in cc

-- ---- all bytes of a number

-- where nothing is left and blanks may stand, all are blank
all-blank : (m k c : ℕ) → k ≤ m → first_not blank blank c (padded m k 0) ≡ None
unfolding padded
all-blank m zero c h = unfold first_not in refl
all-blank m (suc k) c h =
    let e : byte_of (ltb k m) 0 ≡ blank = (unfold byte_of in simp (lt-ltb k m (omega arith))) in
    first_more blank blank c (padded m k 0) (byte_of (ltb k m) 0) (all-blank m k c (omega arith)) (ap (among blank blank) e)

-- what is written is blanks and then digits
pub padded-right : (m k x c : ℕ) → not_padded c (padded m k x) ≡ None
unfolding padded
padded-right m zero x c = unfold not_padded in refl
padded-right m (suc k) x c = by (byte-is (ltb k m) x) (padded-right m k (x / 10) c)
  where
    by : Blank (ltb k m) x ⊎ Digit (ltb k m) x → not_padded c (padded m k (x / 10)) ≡ None → not_padded c (padded m k (x / 10) ++ (byte_of (ltb k m) x ∷ [])) ≡ None
    by (inl b) r =
        let z : x / 10 ≡ 0 = omega (arith, b.none) in
        simp (b.is, z) (blanks-more c (padded m k 0) (all-blank m k c (omega (arith, ltb-true k m b.allowed))))
    by (inr d) r = padded-more c (padded m k (x / 10)) (byte_of (ltb k m) x) r d.right

-- without blanks it is digits
pub digits-right : (k x c : ℕ) → first_not nought nine c (padded 0 k x) ≡ None
unfolding padded
digits-right zero x c = unfold first_not in refl
digits-right (suc k) x c = by (byte-is (ltb k 0) x) (digits-right k (x / 10) c)
  where
    by : Blank (ltb k 0) x ⊎ Digit (ltb k 0) x → first_not nought nine c (padded 0 k (x / 10)) ≡ None → first_not nought nine c (padded 0 k (x / 10) ++ (byte_of (ltb k 0) x ∷ [])) ≡ None
    by (inl b) r = absurd (omega (arith, ltb-true k 0 b.allowed))
    by (inr d) r = first_more nought nine c (padded 0 k (x / 10)) (byte_of (ltb k 0) x) r d.right

-- ---- the number

digit-byte : (may : Bool) (x : ℕ) → digit_of (byte_of may x) ≡ x % 10
unfolding digit_of
digit-byte may x = by (byte-is may x)
  where
    by : Blank may x ⊎ Digit may x → digit_of (byte_of may x) ≡ x % 10
    by (inl b) = ap digit_of b.is ∙ sym (ap (λ (y : ℕ). y % 10) b.none)
    by (inr d) = ap digit_of d.is ∙ simp d.plain (omega arith)

-- the digits put after what is left of a number give it back
pub value-padded : (m k x : ℕ) → value_of (x / 10 ^ k) (padded m k x) ≡ x
unfolding padded
value-padded m zero x = unfold value_of in div-one x
value-padded m (suc k) x =
    let e : x / 10 ^ suc k ≡ x / 10 / 10 ^ k = ap (λ (n : ℕ). x / n) (pow-succ' 10 k) ∙ sym (div-div-eq-div-mul x 10 (10 ^ k)) in
    let v : value_of (x / 10 ^ suc k) (padded m k (x / 10)) ≡ x / 10 =
    ap (λ (n : ℕ). value_of n (padded m k (x / 10))) e ∙ value-padded m k (x / 10) in
    value-more (x / 10 ^ suc k) (padded m k (x / 10)) (byte_of (ltb k m) x) ∙ omega (arith, v, digit-byte (ltb k m) x)

-- ---- a field

-- a number x stands in a field of a line, behind blanks that follow the column `before`
pub record Spelt (before : ℕ) (f : Field) (m x : ℕ) (s : List ℕ) : Type 0 where
  pub gap : first_not blank blank before (slice_range s before (f.first - 1)) ≡ None
  pub whole : slice_range s (f.first - 1) (f.point - 1) ≡ padded m (f.point - f.first) (x / 10 ^ (f.last - f.point))
  pub point : cond (leb f.point f.last) (column f.point s) dot ≡ dot
  pub behind : slice_range s f.point f.last ≡ padded 0 (f.last - f.point) x

module _ (before : ℕ) (f : Field) (m x : ℕ) (s : List ℕ) (p : Spelt before f m x s) where
  -- its columns are right
  pub field-right : bad_field before f s ≡ None
  field-right =
      unfold bad_field in unfold bad_fraction in
      simp (p.gap, p.whole, padded-right, p.behind, digits-right) (by (leb f.point f.last) p.point)
    where
      by : (b : Bool) → cond b (column f.point s) dot ≡ dot → cond b (cond (eqb (column f.point s) dot) None (Some f.point)) None ≡ None
      by true h = simp (eq-eqb _ _ h)
      by false h = refl

  -- and it is read
  pub field-number : x < 10 ^ (f.point - f.first + (f.last - f.point)) → number_of f s ≡ x
  field-number h =
      unfold number_of in
      let k = f.point - f.first in
      let j = f.last - f.point in
      let l : x < 10 ^ k * 10 ^ j = rw (pow-add 10 k j) at h in
      let o : 0 < 10 ^ j = omega (arith, one-le-pow j 10 (omega arith)) in
      let w : x / 10 ^ j < 10 ^ k = (div-lt_iff_lt-mul o).1 l in
      let z : x / 10 ^ j / 10 ^ k ≡ 0 = div-eq_of_lt w in
      let v : value_of 0 (padded m k (x / 10 ^ j)) ≡ x / 10 ^ j =
      ap (λ (n : ℕ). value_of n (padded m k (x / 10 ^ j))) (sym z) ∙ value-padded m k (x / 10 ^ j) in
      simp (p.whole, p.behind, v) (value-padded 0 j x)
