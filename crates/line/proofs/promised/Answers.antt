-- `line::promised` meets its contract. Assumes nothing.
use mathlib.Core.Path.{refl}
use Rattle.line.proofs.Examples.{examples}
use Rattle.line.proofs.promised.Goals as goal

pub returns : goal.returns
returns c = (refl, examples)
