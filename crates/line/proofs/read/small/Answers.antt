-- `line::read::small` meets its contract: nine digits fit. Assumes nothing.
use Rattle.std.proofs.Common.{arith}
use Rattle.line.proofs.Laws.{shapes, places, number-below, digits-most}
use Rattle.line.proofs.read.small.Goals as goal

pub overflow_cast-result : goal.overflow_cast-result
overflow_cast-result c =
    let p = shapes c.args.f in
    let d = digits-most (places c.args.f) 9 (omega arith) in
    omega (arith, c.number.ensures, number-below c.args.f c.args.line.now c.told-line)
