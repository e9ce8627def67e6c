-- `line_write::promised` meets its contract. Assumes nothing.
use mathlib.Core.Path.{refl}
use Rattle.line_write.proofs.RoundTrip.{reads-back, one-spelling}
use Rattle.line_write.proofs.promised.Goals as goal

pub returns : goal.returns
returns c = (refl, reads-back, one-spelling)
