-- `line::read::value` meets its contract: the digits so far are put after n. Assumes nothing.
use Rattle.std.proofs.Common.{refl, arith}
use Rattle.line.specs.Read.{value_of}
use Rattle.line.proofs.Laws.{value-turn, value-fits}
use Rattle.line.proofs.read.value.Goals as goal

pub loop-b-init : goal.loop-b-init
unfolding value_of
loop-b-init c = refl

pub overflow_mul-value : goal.overflow_mul-value
overflow_mul-value c = omega (arith, value-fits c.args.n c.loop-b.b-index c.args.digits.now c.loop-b-test.true c.requires)

pub overflow_add-value : goal.overflow_add-value
overflow_add-value c = omega (arith, value-fits c.args.n c.loop-b.b-index c.args.digits.now c.loop-b-test.true c.requires)

pub loop-b-preserved : goal.loop-b-preserved
loop-b-preserved c = omega (arith, value-turn c.args.n c.loop-b.b-index c.args.digits.now c.loop-b-test.true)
