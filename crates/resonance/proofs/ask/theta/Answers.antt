-- `resonance::ask::theta` meets its contract: its text is the definition's. Assumes nothing.
use lib.Ieee.{of_bits, round}
use Rattle.floats.specs.Rounded.{dec}
use Rattle.orbit.specs.Model.{tau}
use Rattle.resonance.specs.Ask.{theta_at}
use Rattle.resonance.proofs.ask.theta.Goals as goal

pub returns : goal.returns
unfolding theta_at tau dec of_bits round
returns c = c.rem.ensures
