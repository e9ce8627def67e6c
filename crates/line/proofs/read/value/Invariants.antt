-- `line::read::value` meets its contract: the digits so far are put after n. Assumes nothing.
use Rattle.std.proofs.Common.{◌≡◌, take}
use Rattle.line.specs.Read.{value_of}
use Rattle.line.proofs.read.value.Given as goal

abbrev pub invariant-loop-b : goal.invariant-loop-b
invariant-loop-b l = l.value ≡ value_of l.n (take l.b-index l.digits)
