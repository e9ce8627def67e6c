-- `contents::little_endian::put_u64` meets its contract: eight bytes fit where there is room for them. Assumes nothing.
use mathlib.Core.Path.{sym, ◌∙◌}
use native.Mathlib.Omega.{arith}
use Rattle.contents.specs.LittleEndian.{le_bytes}
use Rattle.contents.proofs.Le.{length-le_bytes}
use Rattle.contents.proofs.Laid.{laid-inside, laid-outside}
use Rattle.contents.proofs.little_endian.put_u64.Goals.{else-at-out-via-then-at-out+else-out-at-ge8, else-at-out-via-else-at-out}
use Rattle.contents.proofs.little_endian.put_u64.Goals as goal

pub returns-then-out-at-ge8 : goal.returns-then-out-at-ge8
returns-then-out-at-ge8 c =
    let a = c.args in
    let n = length-le_bytes 8 a.x in
    c.put_number.ensures ∙ sym (laid-inside a.at (le_bytes 8 a.x) a.out.now (omega arith))

pub returns-else-at-out : goal.returns-else-at-out
returns-else-at-out c =
    let a = c.args in
    let n = length-le_bytes 8 a.x in
    elim c.else-at-out.branch [
      | else-at-out-via-then-at-out+else-out-at-ge8 w ↦ sym (laid-outside a.at (le_bytes 8 a.x) a.out.now (omega arith))
      | else-at-out-via-else-at-out w ↦ sym (laid-outside a.at (le_bytes 8 a.x) a.out.now (omega arith))
    ]
