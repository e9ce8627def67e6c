-- `contents::little_endian::u64_at` meets its contract: the library's number is the one of the definition. Assumes nothing.
use mathlib.Core.Path.{sym, ◌∙◌}
use native.Mathlib.Omega.{arith}
use lib.ListN.{length-drop}
use Rattle.std.proofs.lemmas.List.{take_rest}
use Rattle.contents.proofs.Le.{from_le_8, word-inside, word-outside}
use Rattle.contents.proofs.little_endian.u64_at.Goals as goal

pub returns-in-Some : goal.returns-in-Some
returns-in-Some c =
    let a = c.args in
    let k = c.in-Some.ensures.cases in
    let n = rw (take_rest a.s.now a.at, length-drop a.at a.s.now) at k.enough in
    from_le_8 a.at a.s.now k c.from_le_bytes.ensures ∙ sym (word-inside a.at a.s.now (omega arith))

pub returns-in-None : goal.returns-in-None
returns-in-None c =
    let a = c.args in
    let n = rw (take_rest a.s.now a.at, length-drop a.at a.s.now) at c.in-None.ensures.cases in
    sym (word-outside a.at a.s.now (omega arith))
