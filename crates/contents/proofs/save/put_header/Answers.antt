-- `contents::save::put_header` meets its contract. Assumes nothing.
use native.Mathlib.Omega.{arith}
use mathlib.Core.Path.{refl}
use mathlib.Core.List.{◌++◌}
use Rattle.contents.specs.LittleEndian.{le_bytes}
use Rattle.contents.specs.Records.{header}
use Rattle.contents.proofs.Laid.{laid_then}
use Rattle.contents.proofs.save.put_header.Goals as goal

pub returns : goal.returns
unfolding le_bytes header
returns c =
    let a = c.args in
    let l = a.out.now in
    let e₂ = laid_then 0 4 (le_bytes 4 0x5442_524F) (le_bytes 2 1) l (omega arith) c.put_number.ensures refl c.put_number-2.ensures in
    laid_then 0 6 (le_bytes 4 0x5442_524F ++ le_bytes 2 1) (le_bytes 2 a.n) l (omega arith) e₂ refl c.put_number-3.ensures
