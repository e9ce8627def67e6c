-- The laws of bytes that are laid over a line, one at a time from the last to the first. Assumes nothing.
use mathlib.Core.Path.{◌≡◌, refl, sym, ◌∙◌, ap}
use mathlib.Core.List.{List, [], ◌∷◌, ◌++◌, append_assoc}
use Prim.Native.Nat.{ℕ, zero, suc, ◌+◌, ◌-◌, ◌/◌, ◌^◌, ◌<◌, ◌≤◌}
use native.Mathlib.Nat.{pow-suc, div-div-eq-div-mul, add-zero}
use native.Mathlib.Numerals.{add-one}
use native.Mathlib.Omega.{arith}
use lib.ListN.{length, take, drop, set, length-append, take-append-drop}
use lib.Dec.{ltb}
use borrow.Rule.Slice.PartMut.{put_mid}
use Rattle.std.proofs.lemmas.Slice.{put_mid-paste}
use Rattle.std.proofs.lemmas.List.{drop-set}
use Rattle.std.proofs.lemmas.List.Edits.{paste_all}
use Rattle.line.specs.Read.{check_digit}
use Rattle.line_write.specs.Write.{byte_of, padded, laid, field_on, fields_on, spelled, front_of, line_of}
use Rattle.line.specs.declared.fields.Numbers.{Numbers}

pub length-padded : (m k x : ℕ) → length (padded m k x) ≡ k
unfolding padded
length-padded m zero x = refl
length-padded m (suc k) x =
    length-append (padded m k (x / 10)) _ ∙ ap (λ (n : ℕ). n + 1) (length-padded m k (x / 10)) ∙ add-one k

pub laid_nil : (at : ℕ) (l : List ℕ) → laid at [] l ≡ l
unfolding laid
laid_nil at l = simp (add-zero, take-append-drop)

padded-more : (m k x : ℕ) → padded m (suc k) x ≡ padded m k (x / 10) ++ (byte_of (ltb k m) x ∷ [])
unfolding padded
padded-more m k x = refl

-- one turn: the last digit that is left is set
pub padded-turn : (m i x : ℕ) (l : List ℕ) → 0 < i → i ≤ length l
    → padded m i x ++ drop i l ≡ padded m (i - 1) (x / 10) ++ drop (i - 1) (set l (i - 1) (byte_of (ltb (i - 1) m) x))
padded-turn m i x l h k =
    let e : i ≡ suc (i - 1) = omega arith in
    let n : i - 1 + 1 ≡ i = omega arith in
    let b = byte_of (ltb (i - 1) m) x in
    let ds = padded m (i - 1) (x / 10) in
    ap (λ (p : List ℕ). p ++ drop i l) (ap (λ (j : ℕ). padded m j x) e ∙ padded-more m (i - 1) x)
    ∙ append_assoc ds (b ∷ []) (drop i l)
    ∙ sym (ap (λ (d : List ℕ). ds ++ d) (drop-set l (i - 1) b (omega arith) ∙ ap (λ (j : ℕ). b ∷ drop j l) n))

-- a digit less is a division more
pub div-turn : (x y e i : ℕ) → 0 < i → i ≤ e → y ≡ x / 10 ^ (e - i) → y / 10 ≡ x / 10 ^ (e - (i - 1))
div-turn x y e i h k p =
    let s : e - (i - 1) ≡ suc (e - i) = omega arith in
    ap (λ (z : ℕ). z / 10) p
    ∙ div-div-eq-div-mul x (10 ^ (e - i)) 10
    ∙ sym (ap (λ (n : ℕ). x / 10 ^ n) s ∙ ap (λ (n : ℕ). x / n) (pow-suc 10 (e - i)))

-- a part of a line that was written is laid over it
pub mid-laid : (a k : ℕ) (l ys zs : List ℕ) → ys ≡ zs → k ≡ length zs → put_mid a k l ys ≡ laid a zs l
unfolding laid
mid-laid a k l ys zs e h =
    put_mid-paste a k l ys zs k e refl h
    ∙ paste_all l a zs k h
    ∙ ap (λ (j : ℕ). take a l ++ (zs ++ drop (a + j) l)) h

-- the fields over a line of blanks, and the check digit, are the line
pub line-is : (n : Numbers) → set (fields_on n) 68 (check_digit (fields_on n)) ≡ line_of n
unfolding fields_on field_on laid padded line_of front_of spelled check_digit
line-is n = refl
