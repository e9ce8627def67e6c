-- `constants::given::sum` meets its contract: its text is the definition's. Assumes nothing.
use mathlib.Core.Path.{refl}
use Rattle.constants.specs.Given.{sum}
use Rattle.constants.proofs.given.sum.Goals as goal

pub returns : goal.returns
unfolding sum
returns c = refl
