-- `line_write::put` meets its contract: what is left to write and what is written are the whole. Assumes nothing.
use Rattle.std.proofs.Common.{◌≡◌, sym, ◌∙◌, ap, ℕ, ◌-◌, ◌/◌, ◌++◌, length, drop, arith}
use lib.ListN.{set, length-set}
use Rattle.line_write.specs.Write.{padded}
use Rattle.line_write.proofs.Laws.{padded-turn, div-turn}
use Rattle.line_write.proofs.put.Goals as goal

pub loop-i-preserved : goal.loop-i-preserved
loop-i-preserved c =
    let l = c.loop-i in
    let a = c.args in
    let n = length-set l.columns (l.i - 1) c.byte.result in
    record {
      inside = rw n (omega arith);
      left = rw n (div-turn a.x l.left (length l.columns) l.i (omega arith) (omega arith) l.invariant.left);
      whole =
          rw n
          (l.invariant.whole
          ∙ padded-turn a.blanks l.i l.left l.columns (omega arith) (omega arith)
          ∙ ap (λ (b : ℕ). padded a.blanks (l.i - 1) (l.left / 10) ++ drop (l.i - 1) (set l.columns (l.i - 1) b)) (sym c.byte.ensures));
    }

pub returns : goal.returns
unfolding padded
returns c =
    let l = c.loop-i in
    let a = c.args in
    let z : l.i ≡ 0 = omega arith in
    let k : length l.columns ≡ length a.columns.now = l.auto.columns in
    let i = l.invariant in
    let w : padded a.blanks (length a.columns.now) a.x ≡ l.columns = rw (k, z) at i.whole in
    let n : length l.columns - l.i ≡ length a.columns.now = omega arith in
    (rw n at i.left, sym w)
