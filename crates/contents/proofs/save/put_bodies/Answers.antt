-- `contents::save::put_bodies` meets its contract: each part goes on where the last ended. Assumes nothing.
use native.Mathlib.Omega.{arith}
use Prim.Native.Nat.{◌+◌, ◌-◌}
use mathlib.Core.Path.{◌≡◌, ◌∙◌}
use mathlib.Core.List.{◌++◌, append_assoc}
use lib.ListN.{length, take, drop, length-append, length-drop}
use lib.Seq.{length-take-le, take_all}
use Rattle.contents.specs.Table.{bodies_with}
use Rattle.contents.proofs.Laid.{laid_then}
use Rattle.contents.proofs.save.put_bodies.Goals as goal

pub returns : goal.returns
unfolding bodies_with
returns c =
    let a = c.args in
    let l = a.out.now in
    let s = a.file.now in
    let b₁ = take (a.p.cut - a.end) (drop a.end s) in
    let b₂ = take (length s - a.p.rest) (drop a.p.rest s) in
    let n₁ : length b₁ ≡ a.p.cut - a.end = length-take-le _ _ (simp length-drop (omega arith)) in
    let e₂ = laid_then a.at (a.at + (a.p.cut - a.end)) b₁ a.body.now l (omega arith) c.put_bytes.ensures (simp n₁) c.put_bytes-2.ensures in
    laid_then a.at (a.at + (a.p.cut - a.end) + length a.body.now) (b₁ ++ a.body.now) b₂ l (omega arith) e₂ (simp (length-append, n₁) (omega arith)) c.put_bytes-3.ensures
    ∙ simp (append_assoc, take_all (length s - a.p.rest) (drop a.p.rest s) (simp length-drop (omega arith)))
