-- `floats::remainder::rem` meets its contract: of two finite floats, the second no zero, it is the remainder of their units. Assumes nothing.
use mathlib.Core.Path.{◌≡◌, refl, sym, ap, ◌∙◌, subst}
use mathlib.Core.Bool.{Bool, true, not, cond, false≢true}
use Prim.Native.Nat.{ℕ, ◌+◌, ◌-◌, ◌*◌, ◌/◌, ◌%◌, ◌^◌, ◌<◌, ◌≤◌}
use native.Mathlib.Omega.{arith}
use lib.Dec.{T}
use lib.Arith.{le→nltb}
use lib.Pow.{pow_pos}
use lib.Ieee.{Float, nan, inf, fin, is_nan, binary64, fits, of_bits, to_bits, rem}
use lib.Ieee.Bits.{of_bits-fits, to_bits-lt, nan_bits_above}
use lib.Ieee.Exact.{HasValue}
use Rattle.floats.specs.Remainder.{sig_of, units_of}
use Rattle.floats.proofs.Units.{rem-left, rem-right, rem-endless, rem-far, rem-zero, rem-units, Split, split-of, split-value, split-endless, low_bits, units-is, units-zero, units-some, sig-few, valued}
use Rattle.floats.proofs.remainder.rem.Goals.{Start, Else-b-eq0, Else-b-ge9218868437227405312, Else-a-ge9218868437227405312}
use Rattle.floats.proofs.remainder.rem.Goals as goal

-- what owning an `f64` tells: the format holds it
held-x : (c : Start) → T (fits binary64 c.args.x)
held-x c = subst T (sym c.well_formed.0.1) tt

held-m : (c : Start) → T (fits binary64 c.args.m)
held-m c = subst T (sym c.well_formed.1.0.1) tt

only_nan : (x : Float) → true ≡ is_nan x → x ≡ nan
unfolding is_nan
only_nan nan h = refl
only_nan (inf s) h = absurd (false≢true (sym h))
only_nan (fin s m e) h = absurd (false≢true (sym h))

pub returns-then-is_nan : goal.returns-then-is_nan
returns-then-is_nan c =
    let e = only_nan c.args.x c.if-is_nan.ensures.value in
    e ∙ rem-left c.args.m ∙ ap (λ (z : Float). rem binary64 z c.args.m) (sym e)

pub returns-then-is_nan-2 : goal.returns-then-is_nan-2
returns-then-is_nan-2 c =
    let e = only_nan c.args.m c.if-is_nan-2.ensures.value in
    e ∙ rem-right c.args.x ∙ ap (rem binary64 c.args.x) (sym e)

pub float_to_bits-bits : goal.float_to_bits-bits
float_to_bits-bits c = subst (λ (b : Bool). T (not b)) c.if-is_nan.ensures.value tt

pub float_to_bits-b : goal.float_to_bits-b
float_to_bits-b c = subst (λ (b : Bool). T (not b)) c.if-is_nan-2.ensures.value tt

pub returns-then-a-ge9218868437227405312 : goal.returns-then-a-ge9218868437227405312
returns-then-a-ge9218868437227405312 c =
    let s = split-of c.args.x (held-x (goal.at.returns-then-a-ge9218868437227405312 c).Start) in
    rem-endless c.args.x c.args.m (split-endless c.args.x s c.if-a-ge9218868437227405312.true)

x-value : (c : Else-a-ge9218868437227405312) (s : Split c.args.x) → HasValue c.args.x s.sign (units_of (low_bits c.args.x)) (2 ^ 1074)
x-value c s = split-value c.args.x s c.if-a-ge9218868437227405312.false

pub returns-then-b-ge9218868437227405312 : goal.returns-then-b-ge9218868437227405312
returns-then-b-ge9218868437227405312 c =
    let at = goal.at.returns-then-b-ge9218868437227405312 c in
    let s = split-of c.args.x (held-x at.Start) in
    let t = split-of c.args.m (held-m at.Start) in
    rem-far c.args.x c.args.m s.sign (units_of (low_bits c.args.x)) (2 ^ 1074) (x-value at.Else-a-ge9218868437227405312 s) (subst (λ (b : Bool). T (not b)) c.if-is_nan-2.ensures.value tt) (split-endless c.args.m t c.if-b-ge9218868437227405312.true)

pub returns-then-b-eq0 : goal.returns-then-b-eq0
returns-then-b-eq0 c =
    let at = goal.at.returns-then-b-eq0 c in
    let s = split-of c.args.x (held-x at.Start) in
    let t = split-of c.args.m (held-m at.Start) in
    rem-zero c.args.x c.args.m s.sign t.sign (units_of (low_bits c.args.x)) (2 ^ 1074) (pow_pos 1074) (x-value at.Else-a-ge9218868437227405312 s)
    (subst (λ (z : ℕ). HasValue c.args.m t.sign z (2 ^ 1074)) (units-zero (low_bits c.args.m) c.if-b-eq0.true) (split-value c.args.m t c.if-b-ge9218868437227405312.false))

room : (n r : ℕ) → n < 2 ^ 64 → r < 2047 * 2 ^ 52 → n - n % 2 ^ 63 + r < 2 ^ 64
room n r h l = omega arith

-- the sign bit over it leaves the pattern as it is
kept : (n r : ℕ) → n < 2 ^ 64 → r < 2047 * 2 ^ 52 → (n - n % 2 ^ 63 + r) % 2 ^ 63 ≤ 2047 * 2 ^ 52
kept n r h l = omega arith

pub overflow_add-result : goal.overflow_add-result
overflow_add-result c = omega (arith, room (to_bits binary64 c.args.x) c.rest.result (to_bits-lt binary64 c.args.x (held-x (goal.at.overflow_add-result c).Start)) c.rest.ensures.finite)

pub float_from_bits-result : goal.float_from_bits-result
float_from_bits-result c =
    let n = to_bits binary64 c.args.x - to_bits binary64 c.args.x % 2 ^ 63 + c.rest.result in
    subst (λ (t : Bool). T (not t)) (sym (nan_bits_above binary64 n))
    (le→nltb (2047 * 2 ^ 52) (n % 2 ^ 63) (kept (to_bits binary64 c.args.x) c.rest.result (to_bits-lt binary64 c.args.x (held-x (goal.at.float_from_bits-result c).Start)) c.rest.ensures.finite))

places : (r : ℕ) → r < 2047 * 2 ^ 52 → r / 2 ^ 52 - 1 ≤ 2045
places r h = omega arith

positive : (n : ℕ) → (n ≡ 0 → ⊥) → 0 < n
positive n h = omega arith

pub returns : goal.returns
returns c =
    let at = goal.at.returns c in
    let s = split-of c.args.x (held-x at.Start) in
    let t = split-of c.args.m (held-m at.Start) in
    let r = c.rest.result in
    let v = of_bits binary64 (cond s.sign (2 ^ 63) 0 + r) in
    ap (λ (k : ℕ). of_bits binary64 (k + r)) s.high
    ∙ rem-units c.args.x c.args.m v s.sign t.sign (units_of (low_bits c.args.x)) (units_of (low_bits c.args.m)) (sig_of r) (r / 2 ^ 52 - 1)
    (of_bits-fits binary64 (cond s.sign (2 ^ 63) 0 + r))
    (x-value at.Else-a-ge9218868437227405312 s)
    (split-value c.args.m t c.if-b-ge9218868437227405312.false)
    (units-some (low_bits c.args.m) (positive (low_bits c.args.m) c.if-b-eq0.false))
    (sig-few r)
    (places r c.rest.ensures.finite)
    (sym (units-is r) ∙ c.rest.ensures.is)
    (subst (λ (z : ℕ). HasValue v s.sign z (2 ^ 1074)) (units-is r) (valued s.sign r c.rest.ensures.finite))
