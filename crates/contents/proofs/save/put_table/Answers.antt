-- `contents::save::put_table` meets its contract: each part goes on where the last ended. Assumes nothing.
use native.Mathlib.Omega.{arith}
use Prim.Native.Nat.{◌+◌, ◌*◌, ◌-◌}
use mathlib.Core.Path.{◌∙◌}
use mathlib.Core.List.{◌++◌, append_assoc}
use lib.ListN.{drop, length-append}
use Rattle.contents.specs.Format.{entries, contents_end}
use Rattle.contents.specs.Records.{entry_bytes}
use Rattle.contents.specs.Table.{table, table_with}
use Rattle.contents.proofs.Laid.{laid_then}
use Rattle.contents.proofs.save.Laws.{length-entry_bytes, length-table, length-entries}
use Rattle.contents.proofs.save.put_table.Goals as goal

pub returns : goal.returns
unfolding table_with
returns c =
    let a = c.args in
    let l = a.out.now in
    let s = a.contents.file.now in
    let start = contents_end (a.contents.count + 1 - a.p.old) in
    let mid = c.put_entries-mid.result in
    let t₁ = table start (entries a.p.below (drop 8 s)) in
    let new = entry_bytes a.satellite mid a.size in
    let t₂ = table (mid + a.size) (entries (a.contents.count - (a.p.below + a.p.old)) (drop (8 + 12 * (a.p.below + a.p.old)) s)) in
    let e₂ = laid_then 8 (contents_end a.p.below) t₁ new l (omega arith) c.put_entries-mid.ensures.1 (simp (length-table, length-entries)) c.put_entry.ensures in
    laid_then 8 (contents_end (a.p.below + 1)) (t₁ ++ new) t₂ l (omega arith) e₂ (simp (length-append, length-table, length-entries, length-entry_bytes) (omega arith)) c.put_entries.ensures.1
    ∙ simp (append_assoc, c.put_entries-mid.ensures.0)
