-- `line::read::first_bad` meets its contract: the fields that are left decide. Assumes nothing.
use Rattle.std.proofs.Common.{refl, ◌∙◌, sym}
use Rattle.line.specs.Read.{first_bad, bad_from, bad_field, bad_fraction}
use Rattle.line.proofs.Laws.{ordered-turn, bad-turn, bad-done, found, passed}
use Rattle.line.proofs.read.first_bad.Goals as goal

pub loop-f-init : goal.loop-f-init
unfolding first_bad bad_from bad_field bad_fraction
loop-f-init c = record { order = refl; whole = refl }

pub bad_field-bad-requires : goal.bad_field-bad-requires
bad_field-bad-requires c = (ordered-turn c.loop-f.before c.loop-f.f-index _ c.f-item.result c.loop-f-test.true c.loop-f.invariant.order).0

pub returns-then-is_some : goal.returns-then-is_some
returns-then-is_some c =
    sym
    (c.loop-f.invariant.whole
    ∙ bad-turn c.loop-f.before c.loop-f.f-index _ c.f-item.result c.loop-f-test.true c.args.line.now
    ∙ found _ _ _ c.bad_field-bad.ensures c.if-is_some.ensures)

pub loop-f-preserved : goal.loop-f-preserved
loop-f-preserved c = record {
  order = (ordered-turn c.loop-f.before c.loop-f.f-index _ c.f-item.result c.loop-f-test.true c.loop-f.invariant.order).1;
  whole =
      c.loop-f.invariant.whole
      ∙ bad-turn c.loop-f.before c.loop-f.f-index _ c.f-item.result c.loop-f-test.true c.args.line.now
      ∙ passed _ _ _ c.bad_field-bad.ensures c.if-is_some.ensures;
}

pub returns : goal.returns
returns c = sym (c.loop-f.invariant.whole ∙ bad-done c.loop-f.before c.loop-f.f-index _ c.args.line.now c.loop-f-test.false)
