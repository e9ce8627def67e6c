-- `contents::save::put_entries` meets its contract: what is left to write, laid over what was written, is the whole. Assumes nothing.
use Prim.Native.Nat.{ℕ, ◌+◌, ◌-◌}
use mathlib.Core.List.{List}
use Rattle.contents.specs.declared.format.Entry.{Entry}
use mathlib.Core.Path.{◌≡◌, sym, ◌∙◌, ap}
use native.Mathlib.Nat.{add_assoc}
use native.Mathlib.Omega.{arith}
use Rattle.contents.specs.Laid.{laid}
use Rattle.contents.specs.Format.{contents_end}
use Rattle.contents.specs.Table.{table, end_of}
use Rattle.contents.proofs.format.Laws.{entries-next}
use Rattle.contents.proofs.Laid.{laid_nil}
use Rattle.contents.proofs.save.Laws.{laid-entry, table-end, end_of-end, end_of-more}
use Rattle.contents.proofs.save.put_entries.Goals as goal

pub loop-i-preserved : goal.loop-i-preserved
loop-i-preserved c =
    let l = c.loop-i in
    let a = c.args in
    let r = simp add_assoc at (entries-next a.n l.i (a.from + l.i) a.contents.file.now (omega arith) c.entry-e.ensures) in
    let k : contents_end (a.to + l.i) + 12 ≡ contents_end (a.to + (l.i + 1)) = omega arith in (
      omega arith,
      omega arith,
      l.invariant.2 ∙ ap (end_of l.body) r ∙ end_of-more l.body c.entry-e.result _,
      l.invariant.3 ∙ ap (λ (es : List Entry). laid (contents_end (a.to + l.i)) (table l.body es) l.out) r
          ∙ laid-entry (contents_end (a.to + l.i)) _ l.body c.entry-e.result _ l.out (omega arith) k c.put_entry.ensures,
    )

pub returns : goal.returns
returns c =
    let l = c.loop-i in
    let a = c.args in
    let m = a.n - l.i in (
      sym (l.invariant.2 ∙ end_of-end l.body m _ (omega arith)),
      sym (l.invariant.3 ∙ ap (λ (bs : List ℕ). laid (contents_end (a.to + l.i)) bs l.out) (table-end l.body m _ (omega arith)) ∙ laid_nil _ l.out),
    )
