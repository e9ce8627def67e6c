-- The laws of specs/Laws.antt. Assumes nothing.
use mathlib.Core.Path.{◌≡◌, refl, sym, ap, ◌∙◌, subst}
use Prim.Native.Nat.{ℕ, zero, suc, ◌+◌, ◌-◌, ◌*◌, ◌/◌, ◌%◌, ◌^◌, ◌≤◌, ◌<◌}
use native.Mathlib.Nat.{le_trans, le_of_eq, lt_of_lt_of_le, lt_of_le_of_lt, le_of_lt, zero-add, add-zero, add-sub_of_le, mul_comm, mul_assoc, mul_left_comm, mul-pos, zero-mul, mul-one, le-div_iff_mul-le, div-add-mod', add-mul}
use native.Mathlib.Omega.{arith}
use mathlib.Core.Bool.{Bool, true, false, not, ◌&&◌, cond, true≢false, false≢true, ◌||◌}
use lib.IntN.{ℤ}
use lib.Dec.{T, ltb, eqb, lit<, lit≤}
use lib.Ieee.{Float, fin, binary64, up, down, round, sum, add, sub, neg, fits}
use lib.Ieee.Fits.{down_pos, add-fits}
use lib.Ieee.Exact.{HasValue}
use lib.Ieee.Back.{round_whole}
use lib.Ieee.Positive.{first_pos}
use lib.Ieee.Scale.{round_same}
use borrow.Author.Tests.{ltb-true, ltb-false, lt-ltb, le-ltb, ne_eqb}
use Rattle.floats.specs.Rounded.{◌⊕◌, ◌⊖◌}
use Rattle.floats.proofs.Exact.{exact, fits-down, fits-num}
use Rattle.times.specs.declared.time.Fault.{Fault}
use Rattle.std.specs.Option.{option_and_then}
use Rattle.std.specs.Prelude.{Option, Some, None, Result, Ok, Err}
use Rattle.rates.specs.declared.Integrator.{Integrator}
use Rattle.resonance.specs.declared.state.ResonanceState.{ResonanceState}
use Rattle.resonance.specs.declared.state.Refused.{Refused}
use Rattle.resonance.specs.declared.advance.Walked.{Walked}
use Rattle.times.specs.Time.{limit, number, time_of, back, delta, refusal}
use Rattle.resonance.specs.State.{fresh_of, step_of, refused_with}
use Rattle.resonance.specs.Advance.{steps, one_more, made, walked, taken}
use Rattle.stepping.specs.Laws.{ExactStep, ExactTest, ExactRest, Composed, Timed, AllMade, FirstRefused, Reported}
use Rattle.times.proofs.Placed.{sign_of, sign-ahead, At as Stands, at_next, due-is, time-is}
use Rattle.times.proofs.Accepted.{accepted-at, accepted-le, accepted-most, number-most, back-sign}
use Rattle.resonance.proofs.Steps.{steps-compose, made_all, steps-place, steps-keep, step_fits}
use Rattle.resonance.proofs.Walk.{advance-go, advance-refused}

-- ---- exactness
stands : (b : Bool) (i : ℕ) → i ≤ 2 ^ 20 → Stands b i (time_of b i)
stands b zero h = (refl, refl)
stands b (suc i) h = round_whole binary64 b (720 * suc i) (le_trans (most i h) (lit≤ tt))
  where
    most : (i : ℕ) → suc i ≤ 2 ^ 20 → 720 * suc i ≤ 754974720
    most i h = omega arith

pub exact-step : ExactStep
exact-step b i h = time-is b (suc i) (time_of b i ⊕ delta b) h (add-fits binary64 (time_of b i) (delta b)) (at_next b i (time_of b i) h (stands b i (le_of_lt h)))

pub exact-test : ExactTest
exact-test b i t h f n p = due-is b i (time_of b i) t f n p (stands b i h)

-- the rest, where P / D is |t|, x the last state's time n up d / down d, and r the remainder
rest-round : (s : Bool) (r g : ℕ) (e : ℤ) → 0 < g → r < 2 ^ 53 → down e ≤ 2 ^ 1074 → HasValue (round binary64 s (r * g) (down e * g)) s r (down e)
rest-round s r g e G small h =
    subst (λ (x : Float). HasValue x s r (down e)) (sym (round_same binary64 s (r * g) (down e * g) r (down e * 1) (mul-pos (down_pos e) G) (mul-pos (down_pos e) (lit< tt)) scale))
    (subst (λ (c : ℕ). HasValue (round binary64 s r (down e * 1)) s r c) (mul-one (down e)) (exact s r e small h))
  where
    scale : r * g * (down e * 1) ≡ r * (down e * g)
    scale = ap (λ (z : ℕ). r * g * z) (mul-one (down e)) ∙ mul_assoc r g (down e) ∙ ap (λ (z : ℕ). r * z) (mul_comm g (down e))

-- the two numerators: |t|'s is the state's and r
numerators : (P D q r g B : ℕ) → P ≡ q * (720 * D) + r → B * 1 ≡ 720 * q * g → P * g ≡ B * D + r * g
numerators P D q r g B p h =
    let same : q * (720 * D) * g ≡ 720 * q * g * D = simp (mul_assoc, mul_comm, mul_left_comm) in
    ap (λ (z : ℕ). z * g) p ∙ add-mul (q * (720 * D)) r g ∙ ap (λ (z : ℕ). z + r * g) (same ∙ ap (λ (z : ℕ). z * D) (sym h ∙ mul-one B))

-- the difference of the two numerators is r's
differ : (A B R C : ℕ) (s t : Bool) → A ≡ B + R → cond (ltb A B) (round binary64 t (B - A) C) (round binary64 s (A - B) C) ≡ round binary64 s R C
differ A B R C s t p =
    let less : ltb A B ≡ false = le-ltb A B (omega arith) in
    let gap : A - B ≡ R = omega arith in
    ap (λ (b : Bool). cond b (round binary64 t (B - A) C) (round binary64 s (A - B) C)) less ∙ ap (λ (z : ℕ). round binary64 s z C) gap

rest_at : (s : Bool) (q : ℕ) (x : Float) (m : ℕ) (e : ℤ) (r : ℕ) → m * up e ≡ q * (720 * down e) + r → r < 2 ^ 53 → down e ≤ 2 ^ 1074 → HasValue x (sign_of s q) (720 * q) 1
    → HasValue (fin s m e ⊖ x) (s && (ltb 0 r || eqb q 0)) r (down e)
unfolding sub add neg sum
rest_at false q lib.Ieee.nan m e r p small h v = elim v [ ]
rest_at false q (lib.Ieee.inf _) m e r p small h v = elim v [ ]
rest_at true zero lib.Ieee.nan m e r p small h v = elim v [ ]
rest_at true zero (lib.Ieee.inf _) m e r p small h v = elim v [ ]
rest_at true (suc q) lib.Ieee.nan m e r p small h v = elim v [ ]
rest_at true (suc q) (lib.Ieee.inf _) m e r p small h v = elim v [ ]
rest_at false q (fin a n d) m e r p small h v = go a (v.0 ∙ sign-ahead q)
  where
    go : (a : Bool) → a ≡ false → HasValue (sum binary64 false (m * up e * down d) (not a) (n * up d * down e) (down e * down d)) false r (down e)
    go true z = absurd (true≢false z)
    go false z =
        subst (λ (y : Float). HasValue y false r (down e))
        (sym (differ (m * up e * down d) (n * up d * down e) (r * down d) (down e * down d) false true (numerators (m * up e) (down e) q r (down d) (n * up d) p v.1)))
        (rest-round false r (down d) e (down_pos d) small h)
rest_at true zero (fin a n d) m e r p small h v = go a v.0
  where
    -- the state's time is +0.0
    none : n * up d * down e ≡ 0
    none = ap (λ (z : ℕ). z * down e) (sym (mul-one (n * up d)) ∙ v.1 ∙ zero-mul (down d)) ∙ zero-mul (down e)

    all : m * up e * down d + n * up d * down e ≡ r * down d
    all = ap (λ (z : ℕ). m * up e * down d + z) none ∙ add-zero (m * up e * down d) ∙ ap (λ (z : ℕ). z * down d) (p ∙ ap (λ (z : ℕ). z + r) (zero-mul (720 * down e)) ∙ zero-add r)

    or-true : (x : Bool) → true ≡ (x || true)
    or-true true = refl
    or-true false = refl

    go : (a : Bool) → a ≡ false → HasValue (sum binary64 true (m * up e * down d) (not a) (n * up d * down e) (down e * down d)) (ltb 0 r || true) r (down e)
    go true z = absurd (true≢false z)
    go false z =
        subst (λ (b : Bool). HasValue (round binary64 true (m * up e * down d + n * up d * down e) (down e * down d)) b r (down e)) (or-true (ltb 0 r))
        (subst (λ (z : ℕ). HasValue (round binary64 true z (down e * down d)) true r (down e)) (sym all) (rest-round true r (down d) e (down_pos d) small h))
rest_at true (suc q) (fin a n d) m e r p small h v = go a v.0
  where
    A : m * up e * down d ≡ n * up d * down e + r * down d
    A = numerators (m * up e) (down e) (suc q) r (down d) (n * up d) p v.1

    -- where something is left the sum keeps the sign
    sign : ltb (n * up d * down e) (m * up e * down d) ≡ (ltb 0 r || eqb (suc q) 0)
    sign = by (ltb 0 r) refl ∙ ap (λ (b : Bool). ltb 0 r || b) (sym (ne_eqb (suc q) 0 (λ (z : suc q ≡ 0). omega arith)))
      where
        more : (a b c : ℕ) → a ≡ b + c → 0 < c → b < a
        more a b c e l = omega arith

        even : (a b c : ℕ) → a ≡ b + c → c ≡ 0 → a ≤ b
        even a b c e l = omega arith

        nil : (r : ℕ) → r ≤ 0 → r * down d ≡ 0
        nil r l = ap (λ (z : ℕ). z * down d) (flat r l) ∙ zero-mul (down d)
          where
            flat : (r : ℕ) → r ≤ 0 → r ≡ 0
            flat r l = omega arith

        by : (b : Bool) → ltb 0 r ≡ b → ltb (n * up d * down e) (m * up e * down d) ≡ (ltb 0 r || false)
        by true u = lt-ltb (n * up d * down e) (m * up e * down d) (more (m * up e * down d) (n * up d * down e) (r * down d) A (mul-pos (ltb-true 0 r u) (down_pos d))) ∙ ap (λ (b : Bool). b || false) (sym u)
        by false u = le-ltb (n * up d * down e) (m * up e * down d) (even (m * up e * down d) (n * up d * down e) (r * down d) A (nil r (ltb-false 0 r u))) ∙ ap (λ (b : Bool). b || false) (sym u)

    go : (a : Bool) → a ≡ true → HasValue (sum binary64 true (m * up e * down d) (not a) (n * up d * down e) (down e * down d)) (ltb 0 r || eqb (suc q) 0) r (down e)
    go false z = absurd (false≢true z)
    go true z =
        subst (λ (y : Float). HasValue y (ltb 0 r || eqb (suc q) 0) r (down e))
        (sym (differ (m * up e * down d) (n * up d * down e) (r * down d) (down e * down d) (ltb (n * up d * down e) (m * up e * down d)) false A))
        (subst (λ (b : Bool). HasValue (round binary64 (ltb (n * up d * down e) (m * up e * down d)) (r * down d) (down e * down d)) b r (down e)) sign
        (rest-round (ltb (n * up d * down e) (m * up e * down d)) r (down d) e (down_pos d) small h))

-- t's direction is its sign bit's, where its number is not 0
sign_same : (s : Bool) (m : ℕ) (e : ℤ) (q : ℕ) → m * up e / (720 * down e) ≡ q → sign_of (back (fin s m e)) q ≡ sign_of s q
sign_same s m e zero p = refl
sign_same s m e (suc q) p = back-sign s m e (first_pos m (up e) (lt_of_lt_of_le (mul-pos (above q) (mul-pos (lit< tt) (down_pos e))) ((le-div_iff_mul-le (mul-pos (lit< tt) (down_pos e))).0 (le_of_eq (sym p)))))
  where
    above : (i : ℕ) → 0 < suc i
    above i = omega arith

pub exact-rest : ExactRest
exact-rest s m e f h =
    let P = m * up e in
    let D = 720 * down e in
    rest_at s (P / D) (time_of (back (fin s m e)) (P / D)) m e (P % D) (sym (div-add-mod' P D))
    (lt_of_le_of_lt (part P (P / D * D) (P % D) (sym (div-add-mod' P D))) (fits-num limit s m e (lit< tt) f h)) (fits-down s m e f)
    (subst (λ (a : Bool). HasValue (time_of (back (fin s m e)) (P / D)) a (720 * (P / D)) 1) (sign_same s m e (P / D) refl) (stands (back (fin s m e)) (P / D) (number-most (fin s m e) h)))
  where
    part : (a b c : ℕ) → a ≡ b + c → c ≤ a
    part a b c p = omega arith

-- ---- steps
pub composed : Composed
composed = steps-compose

steps-fit : (c : Integrator) (b : Bool) (k : ℕ) (s n : ResonanceState) → T (fits binary64 s.t) → steps c b k s ≡ Some n → T (fits binary64 n.t)
steps-fit c b = steps-keep c b (λ (x : ResonanceState). T (fits binary64 x.t)) (step_fits c b)

pub timed : Timed
timed c b k n l s h p =
    time-is b k s.t h (steps-fit c b k (fresh_of n l) s (unfold fits in tt) p)
    (subst (λ (i : ℕ). Stands b i s.t) (zero-add k) (steps-place c b k 0 (fresh_of n l) s (le_trans (le_of_eq (zero-add k)) h) (refl, refl) p))

pub all_made : AllMade
all_made = made_all

pub first-refused : FirstRefused
unfolding steps made
first-refused c b zero s p = cc
first-refused c b (suc k) s p = turn (step_of c b s) refl (λ (x : ResonanceState). first-refused c b k x) p
  where
    Ends : (k m : ℕ) (s : ResonanceState) → Type 0
    Ends k m s = (m < k) × (steps c b m s ≡ None → ⊥) × (steps c b (suc m) s ≡ None)

    up_one : (m k : ℕ) → m < k → suc m < suc k
    up_one m k h = omega arith

    turn : (o : Option ResonanceState) → step_of c b s ≡ o → ((x : ResonanceState) → steps c b k x ≡ None → Ends k (made c b k x) x) → option_and_then (λ (x : ResonanceState). steps c b k x) o ≡ None
        → Ends (suc k) (one_more o (λ (x : ResonanceState). made c b k x)) s
    turn None e ih q = (omega arith, λ (z : Some s ≡ None). cc, ap (λ (o : Option ResonanceState). option_and_then (λ (x : ResonanceState). steps c b 0 x) o) e)
    turn (Some x) e ih q =
        let m = made c b k x in
        let r = ih x q in
        let on : (i : ℕ) → steps c b (suc i) s ≡ steps c b i x = λ (i : ℕ). ap (λ (o : Option ResonanceState). option_and_then (λ (y : ResonanceState). steps c b i y) o) e in
        (up_one m k r.0, λ (z : steps c b (suc m) s ≡ None). r.1 (sym (on m) ∙ z), on (suc m) ∙ r.2)

-- ---- the stepping of an ask
same_walked : (w v : Walked) → ◌≡◌ {A = Result Walked Refused} (Ok w) (Ok v) → w ≡ v
same_walked w v q = cc

pub reported : Reported
reported c s t n k f p = by (refusal s.t t) refl
  where
    K : ℕ
    K = number t - number s.t

    Says : ResonanceState → ℕ → Type 0
    Says n k = (number s.t ≤ number t) × (k ≡ number t - number s.t) × (n.t ≡ time_of (back t) (number t))

    ends : refusal s.t t ≡ Ok tt → (o : Option ResonanceState) → steps c (back t) K s ≡ o → taken s K o ≡ Ok (walked n k) → Says n k
    ends r None e q = cc
    ends r (Some x) e q =
        let ends-is : walked x K ≡ walked n k = same_walked (walked x K) (walked n k) q in
        let x-is : x ≡ n = ap (λ (w : Walked). w.state) ends-is in
        let le = accepted-le s.t t r in
        let on : number s.t + K ≡ number t = add-sub_of_le le in
        let most = accepted-most s.t t r in
        let e' : steps c (back t) K s ≡ Some n = e ∙ ap Some x-is in
        let place : Stands (back t) (number t) n.t = subst (λ (i : ℕ). Stands (back t) i n.t) on (steps-place c (back t) K (number s.t) s n (le_trans (le_of_eq on) most) (accepted-at s.t t r) e') in
        (le, sym (ap (λ (w : Walked). w.steps) ends-is), time-is (back t) (number t) n.t most (steps-fit c (back t) K s n f e') place)

    by : (r : Result (Unit {0}) Fault) → refusal s.t t ≡ r → Says n k
    by (Ok _) e = ends e (steps c (back t) K s) refl (sym (advance-go c s t e) ∙ p)
    by (Err g) e = no (advance-refused c s t g e ∙ p)
      where
        no : Err (refused_with g s) ≡ Ok (walked n k) → Says n k
        no q = cc
