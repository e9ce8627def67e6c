-- A body is laid down by its three parts: the first eight bytes, the numbers, and the state. Assumes nothing.
use mathlib.Core.Path.{◌≡◌, refl, ap, ◌∙◌}
use mathlib.Core.Bool.{Bool, true, false, cond}
use mir.Val.{bool_byte}
use mathlib.Core.List.{List, ◌++◌, append_assoc}
use Prim.Native.Nat.{ℕ, zero, suc, ◌+◌, ◌*◌, ◌-◌}
use native.Mathlib.Omega.{arith}
use native.Mathlib.Nat.{suc-sub-suc, sub-zero, zero-sub}
use lib.ListN.{length, drop, set, replicate}
use lib.Ieee.{Float}
use Rattle.contents.specs.Laid.{laid}
use Rattle.contents.proofs.Laid.{laid_then, laid-front}
use Rattle.body.specs.Floats.{float_bytes}
use Rattle.body.specs.Body.{leading}
use Rattle.body.proofs.Floats.{length-float_bytes, float_bytes-append}

-- a flag is a byte
pub flag_byte : (f : Bool) → bool_byte f ≡ cond f 1 0
flag_byte true = refl
flag_byte false = refl

drop-zeros : (k n : ℕ) → drop {A = ℕ} k (replicate n 0) ≡ replicate (n - k) 0
drop-zeros zero n = simp sub-zero
drop-zeros (suc k) zero = simp zero-sub
drop-zeros (suc k) (suc n) = drop-zeros k n ∙ simp suc-sub-suc

-- over zeros, three parts one after another
pub made : (kind : ℕ) (flag : Bool) (n : ℕ) (xs ys : List Float) {g : ℕ} {b₂ b₃ : List ℕ} → length xs ≡ n → g ≡ cond flag 1 0
    → b₂ ≡ laid 8 (float_bytes xs) (set (set (replicate 304 0) 0 kind) 1 g) → b₃ ≡ laid (8 + 8 * n) (float_bytes ys) b₂
    → b₃ ≡ (leading kind flag ++ float_bytes (xs ++ ys)) ++ replicate (304 - length (leading kind flag ++ float_bytes (xs ++ ys))) 0
made kind flag n xs ys {g} {b₂} {b₃} l p q r =
    let z : List ℕ = replicate 304 0 in
    let f = leading kind flag in
    let m = length-float_bytes xs in
    let o : set (set z 0 kind) 1 g ≡ laid 0 f z = unfold laid in simp p in
    let g₂ = laid_then 0 8 f (float_bytes xs) z (omega arith) o (omega arith) q in
    let e : 8 + 8 * n ≡ 0 + length (f ++ float_bytes xs) = simp (m, l) (omega arith) in
    let g₃ = laid_then 0 (8 + 8 * n) (f ++ float_bytes xs) (float_bytes ys) z (omega arith) g₂ e r in
    let j : f ++ float_bytes xs ++ float_bytes ys ≡ f ++ float_bytes (xs ++ ys) = append_assoc f (float_bytes xs) (float_bytes ys) ∙ simp (float_bytes-append xs ys) in
    g₃ ∙ ap (λ (b : List ℕ). laid 0 b z) j ∙ laid-front (f ++ float_bytes (xs ++ ys)) z
    ∙ ap (λ (t : List ℕ). (f ++ float_bytes (xs ++ ys)) ++ t) (drop-zeros (length (f ++ float_bytes (xs ++ ys))) 304)
