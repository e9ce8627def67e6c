-- `line::read::first_bad` meets its contract: the fields that are left decide. Assumes nothing.
use Rattle.std.proofs.Common.{◌≡◌, true, drop}
use Rattle.line.specs.Read.{first_bad, bad_from}
use Rattle.line.proofs.Laws.{ordered}
use Rattle.line.proofs.read.first_bad.Given as goal

abbrev pub invariant-loop-f : goal.invariant-loop-f
invariant-loop-f l = record {
  order : ordered l.before (drop l.f-index l.f-items) ≡ true;
  whole : first_bad l.line ≡ bad_from l.before (drop l.f-index l.f-items) l.line;
}
