-- `line_write::put` meets its contract: what is left to write and what is written are the whole. Assumes nothing.
use Rattle.std.proofs.Common.{◌≡◌, ◌++◌, ◌/◌, ◌^◌, ◌-◌, ◌≤◌, length, drop}
use Rattle.line_write.specs.Write.{padded}
use Rattle.line_write.proofs.put.Given as goal

abbrev pub invariant-loop-i : goal.invariant-loop-i
invariant-loop-i l = record {
  inside : l.i ≤ length l.columns;
  left : l.left ≡ l.x / 10 ^ (length l.columns - l.i);
  whole : padded l.blanks (length l.columns) l.x ≡ padded l.blanks l.i l.left ++ drop l.i l.columns;
}
