-- `contents::little_endian::put_bytes` meets its contract: the loop is the library's copy. Assumes nothing.
use Prim.Native.Nat.{ℕ, ◌+◌}
use mathlib.Core.List.{List}
use mathlib.Core.Path.{◌≡◌, sym, ◌∙◌, ap, refl}
use native.Mathlib.Omega.{arith}
use native.Mathlib.Numerals.{add-one}
use lib.ListN.{length, set, get_or, length-set}
use lib.Seq.{paste, paste-zero, paste-suc}
use Rattle.contents.proofs.Laid.{paste-laid}
use Rattle.contents.proofs.little_endian.put_bytes.Goals as goal

pub loop-i-init : goal.loop-i-init
loop-i-init c = let a = c.args in (refl, paste-zero a.out.now a.at a.src.now)

pub loop-i-preserved : goal.loop-i-preserved
loop-i-preserved c =
    let l = c.loop-i in
    let a = c.args in (
      simp length-set (omega arith),
      ap (λ (o : List ℕ). set o (a.at + l.i) (get_or a.src.now l.i 0)) l.invariant.1
          ∙ paste-suc a.out.now a.at a.src.now l.i 0 (omega arith) (omega arith)
          ∙ ap (paste a.out.now a.at a.src.now) (sym (add-one l.i)),
    )

pub returns : goal.returns
returns c =
    let l = c.loop-i in
    let a = c.args in
    let e : l.i ≡ length a.src.now = omega arith in
    l.invariant.1 ∙ ap (paste a.out.now a.at a.src.now) e ∙ paste-laid a.at a.src.now a.out.now
