-- `contents::save::put_entry` meets its contract. Assumes nothing.
use native.Mathlib.Omega.{arith}
use mathlib.Core.Path.{◌∙◌}
use mathlib.Core.List.{◌++◌, append_assoc}
use Prim.Native.Nat.{◌+◌}
use Rattle.contents.specs.LittleEndian.{le_bytes}
use Rattle.contents.specs.Format.{contents_end}
use Rattle.contents.specs.Records.{entry_bytes}
use Rattle.contents.proofs.Le.{length-le_bytes}
use Rattle.contents.proofs.Laid.{laid_then}
use lib.ListN.{length-append}
use Rattle.contents.proofs.save.put_entry.Goals as goal

pub returns : goal.returns
unfolding entry_bytes
returns c =
    let a = c.args in
    let l = a.out.now in
    let at = contents_end a.i in
    let e₂ = laid_then at (at + 4) (le_bytes 4 a.satellite) (le_bytes 4 a.offset) l (omega arith) c.put_number.ensures (simp length-le_bytes) c.put_number-2.ensures in
    laid_then at (at + 8) (le_bytes 4 a.satellite ++ le_bytes 4 a.offset) (le_bytes 4 a.size) l (omega arith) e₂ (simp (length-append, length-le_bytes)) c.put_number-3.ensures
    ∙ simp append_assoc
