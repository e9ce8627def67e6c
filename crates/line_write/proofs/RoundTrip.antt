-- Reading and writing line two, there and back: the proofs of specs/RoundTrip. Assumes nothing.
use mathlib.Core.Path.{◌≡◌, refl, sym, ◌∙◌, ap}
use mathlib.Core.Bool.{Bool, true, false, cond, ◌||◌}
use mathlib.Core.List.{List}
use Prim.Native.Nat.{ℕ, ◌≤◌}
use native.Mathlib.Omega.{arith}
use borrow.Author.Tests.{eqb-true, eq-eqb, leb-true, le-leb, lt-leb, leb-false, le-ltb, ltb-false}
use lib.ListN.{length, drop}
use lib.Seq.{take_at, drop_at}
use lib.Dec.{eqb, leb, ltb}
use Rattle.line.specs.Fields as F
use Rattle.line.specs.Fields.{column}
use Rattle.line.specs.Read.{check_digit, first_bad, bad_from, numbers_of, number_of, turned, ranged, numbered, read_of, first_not}
use Rattle.line.specs.declared.fields.Numbers.{Numbers}
use Rattle.line.specs.declared.read.LineError.{LineError}
use Rattle.line.specs.declared.read.LineError.TheVariants.{Length, LineNumber, CheckDigit, Inclination, Angle}
use Rattle.std.specs.Prelude.{Option, Some, None, Result, Ok, Err}
use Rattle.line.proofs.Laws.{number-below}
use Rattle.line_write.specs.Write.{padded, spelled, front_of, line_of, fitted_of, written_to, greatest}
use Rattle.line_write.specs.RoundTrip.{ReadsBack, OneSpelling}
use Rattle.line_write.specs.declared.WriteError.TheVariants.{OutputShort, DoesNotFit}
use Rattle.line_write.specs.declared.Name.TheVariants as N
use Rattle.line_write.proofs.Spelling.{Spelt, field-right, field-number}

-- ---- numbers in their ranges

pub record Ranged (n : Numbers) : Type 0 where
  pub satellite : n.satellite ≤ 99999
  pub inclination : n.inclination ≤ 1800000
  pub node : n.node ≤ 3599999
  pub eccentricity : n.eccentricity ≤ 9999999
  pub perigee : n.perigee ≤ 3599999
  pub anomaly : n.anomaly ≤ 3599999
  pub mean_motion : n.mean_motion ≤ 9999999999
  pub revolution : n.revolution ≤ 99999

fits : (n : Numbers) → Ranged n → fitted_of n ≡ Ok tt
unfolding fitted_of
fits n r =
    simp (
      le-leb _ _ r.satellite,
      le-leb _ _ r.inclination,
      le-leb _ _ r.node,
      le-leb _ _ r.eccentricity,
      le-leb _ _ r.perigee,
      le-leb _ _ r.anomaly,
      le-leb _ _ r.mean_motion,
      le-leb _ _ r.revolution,
    )

-- a test that leaves an answer that is no refusal
passed : {A E : Type 0} {a : A} (b : Bool) (x : Result A E) (e : E) → cond b x (Err e) ≡ Ok a → (b ≡ true) × (x ≡ Ok a)
passed true x e h = (refl, h)
passed false x e h = cc

ranges : (n : Numbers) → fitted_of n ≡ Ok tt → Ranged n
unfolding fitted_of
ranges n h =
    let p0 = passed (leb n.satellite (greatest N.Satellite)) _ (DoesNotFit N.Satellite) h in
    let p1 = passed (leb n.inclination (greatest N.Inclination)) _ (DoesNotFit N.Inclination) p0.1 in
    let p2 = passed (leb n.node (greatest N.Node)) _ (DoesNotFit N.Node) p1.1 in
    let p3 = passed (leb n.eccentricity (greatest N.Eccentricity)) _ (DoesNotFit N.Eccentricity) p2.1 in
    let p4 = passed (leb n.perigee (greatest N.Perigee)) _ (DoesNotFit N.Perigee) p3.1 in
    let p5 = passed (leb n.anomaly (greatest N.Anomaly)) _ (DoesNotFit N.Anomaly) p4.1 in
    let p6 = passed (leb n.mean_motion (greatest N.MeanMotion)) _ (DoesNotFit N.MeanMotion) p5.1 in
    let p7 = passed (leb n.revolution (greatest N.Revolution)) _ (DoesNotFit N.Revolution) p6.1 in
    record {
      satellite = leb-true _ _ p0.0;
      inclination = leb-true _ _ p1.0;
      node = leb-true _ _ p2.0;
      eccentricity = leb-true _ _ p3.0;
      perigee = leb-true _ _ p4.0;
      anomaly = leb-true _ _ p5.0;
      mean_motion = leb-true _ _ p6.0;
      revolution = leb-true _ _ p7.0;
    }

-- ---- the line that is written

length-line : (n : Numbers) → length (line_of n) ≡ 69
unfolding line_of front_of spelled padded
length-line n = refl

check-line : (n : Numbers) → column 69 (line_of n) ≡ check_digit (line_of n)
unfolding line_of front_of spelled padded check_digit
check-line n = refl

first-line : (n : Numbers) → column 1 (line_of n) ≡ 0x32
unfolding line_of front_of spelled padded
first-line n = refl

module _ (n : Numbers) where
  spelt-satellite : Spelt 1 F.satellite 0 n.satellite (line_of n)
  unfolding line_of front_of spelled padded first_not
  spelt-satellite = record { gap = refl; whole = refl; point = refl; behind = refl }

  spelt-inclination : Spelt 7 F.inclination 2 n.inclination (line_of n)
  unfolding line_of front_of spelled padded first_not
  spelt-inclination = record { gap = refl; whole = refl; point = refl; behind = refl }

  spelt-node : Spelt 16 F.node 2 n.node (line_of n)
  unfolding line_of front_of spelled padded first_not
  spelt-node = record { gap = refl; whole = refl; point = refl; behind = refl }

  spelt-eccentricity : Spelt 25 F.eccentricity 0 n.eccentricity (line_of n)
  unfolding line_of front_of spelled padded first_not
  spelt-eccentricity = record { gap = refl; whole = refl; point = refl; behind = refl }

  spelt-perigee : Spelt 33 F.perigee 2 n.perigee (line_of n)
  unfolding line_of front_of spelled padded first_not
  spelt-perigee = record { gap = refl; whole = refl; point = refl; behind = refl }

  spelt-anomaly : Spelt 42 F.anomaly 2 n.anomaly (line_of n)
  unfolding line_of front_of spelled padded first_not
  spelt-anomaly = record { gap = refl; whole = refl; point = refl; behind = refl }

  spelt-mean-motion : Spelt 51 F.mean_motion 1 n.mean_motion (line_of n)
  unfolding line_of front_of spelled padded first_not
  spelt-mean-motion = record { gap = refl; whole = refl; point = refl; behind = refl }

  spelt-revolution : Spelt 63 F.revolution 4 n.revolution (line_of n)
  unfolding line_of front_of spelled padded first_not
  spelt-revolution = record { gap = refl; whole = refl; point = refl; behind = refl }

  no-bad : first_bad (line_of n) ≡ None
  unfolding first_bad bad_from
  no-bad =
      simp (
        field-right _ _ _ _ _ spelt-satellite,
        field-right _ _ _ _ _ spelt-inclination,
        field-right _ _ _ _ _ spelt-node,
        field-right _ _ _ _ _ spelt-eccentricity,
        field-right _ _ _ _ _ spelt-perigee,
        field-right _ _ _ _ _ spelt-anomaly,
        field-right _ _ _ _ _ spelt-mean-motion,
        field-right _ _ _ _ _ spelt-revolution,
      )

  numbers-line : Ranged n → numbers_of (line_of n) ≡ n
  unfolding numbers_of
  numbers-line r =
      simp (
        field-number _ _ _ _ _ spelt-satellite (omega (arith, r.satellite)),
        field-number _ _ _ _ _ spelt-inclination (omega (arith, r.inclination)),
        field-number _ _ _ _ _ spelt-node (omega (arith, r.node)),
        field-number _ _ _ _ _ spelt-eccentricity (omega (arith, r.eccentricity)),
        field-number _ _ _ _ _ spelt-perigee (omega (arith, r.perigee)),
        field-number _ _ _ _ _ spelt-anomaly (omega (arith, r.anomaly)),
        field-number _ _ _ _ _ spelt-mean-motion (omega (arith, r.mean_motion)),
        field-number _ _ _ _ _ spelt-revolution (omega (arith, r.revolution)),
      )

  in-range : Ranged n → ranged n ≡ Ok n
  unfolding ranged turned
  in-range r =
      simp (
        le-ltb 1800000 n.inclination r.inclination,
        lt-leb 3600000 n.node (omega (arith, r.node)),
        lt-leb 3600000 n.perigee (omega (arith, r.perigee)),
        lt-leb 3600000 n.anomaly (omega (arith, r.anomaly)),
      )

  -- it is read as the numbers it was written of
  pub accepted : Ranged n → read_of (line_of n) ≡ Ok n
  unfolding read_of
  accepted r =
      simp (
        eq-eqb _ _ (length-line n),
        eq-eqb _ _ (first-line n),
        eq-eqb _ _ (check-line n),
        no-bad,
        numbers-line r,
        in-range r,
      )

-- ---- a line that is read

-- a test that does not refuse
kept : {A E : Type 0} {a : A} (b : Bool) (e : E) (y : Result A E) → cond b (Err e) y ≡ Ok a → (b ≡ false) × (y ≡ Ok a)
kept true e y h = cc
kept false e y h = (refl, h)

-- a line without a bad column
clear : {n : Numbers} (b : Option ℕ) (s : List ℕ) → numbered b s ≡ Ok n → ranged (numbers_of s) ≡ Ok n
clear (Some k) s h = cc
clear None s h = h

-- an angle that is not turned
either : (a b : Bool) → (a || b) ≡ false → (a ≡ false) × (b ≡ false)
either true b h = let z : ◌≡◌ {A = ℕ} 0 1 = cc in absurd (omega arith)
either false b h = (refl, h)

of-line : (s : List ℕ) → length s ≡ 69 → (numbers_of s).inclination ≤ 1800000 → turned (numbers_of s) ≡ false → Ranged (numbers_of s)
unfolding turned numbers_of
of-line s h i t =
    let p = either (leb 3600000 (number_of F.node s)) _ t in
    let q = either (leb 3600000 (number_of F.perigee s)) _ p.1 in
    record {
      satellite = omega (arith, number-below F.satellite s h);
      inclination = i;
      node = omega (arith, leb-false 3600000 (number_of F.node s) p.0);
      eccentricity = omega (arith, number-below F.eccentricity s h);
      perigee = omega (arith, leb-false 3600000 (number_of F.perigee s) q.0);
      anomaly = omega (arith, leb-false 3600000 (number_of F.anomaly s) q.1);
      mean_motion = omega (arith, number-below F.mean_motion s h);
      revolution = omega (arith, number-below F.revolution s h);
    }

-- its numbers are in their ranges
pub read-ranged : (s : List ℕ) (n : Numbers) → read_of s ≡ Ok n → Ranged n
unfolding read_of ranged
read-ranged s n h =
    let a = passed (eqb (length s) 69) _ Length h in
    let b = passed (eqb (column 1 s) 0x32) _ LineNumber a.1 in
    let c = passed (eqb (column 69 s) (check_digit s)) _ CheckDigit b.1 in
    let d = clear (first_bad s) s c.1 in
    let i = kept (ltb 1800000 (numbers_of s).inclination) Inclination _ d in
    let t = kept (turned (numbers_of s)) Angle (Ok (numbers_of s)) i.1 in
    let same : numbers_of s ≡ n = cc in
    rw same at (of-line s (eqb-true (length s) 69 a.0) (ltb-false 1800000 (numbers_of s).inclination i.0) t.0)

-- ---- the statements

pub reads-back : ReadsBack
reads-back n out h =
    let r = ranges n (kept (ltb (length out) 69) OutputShort (fitted_of n) (unfold written_to in h)).1 in
    record {
      front = take_at (line_of n) _ 69 (length-line n);
      numbers = accepted n r;
      rest = drop_at (line_of n) (drop 69 out) 69 (length-line n);
    }

pub one-spelling : OneSpelling
one-spelling s n h =
    let r = read-ranged s n h in
    record {
      fits = fits n r;
      accepted = accepted n r;
      again = λ m e. ap line_of (same m (sym e ∙ accepted n r));
    }
  where
    same : (m : Numbers) → ◌≡◌ {A = Result Numbers LineError} (Ok m) (Ok n) → m ≡ n
    same m e = cc
