-- `orbit::model::afspc_epoch_to_sidereal_time` meets its contract: the calls give what the definition names. Assumes nothing.
use lib.Ieee.{of_bits, round}
use Rattle.floats.specs.Rounded.{dec}
use Rattle.orbit.specs.Model.{tau, afspc_theta_0}
use Rattle.orbit.proofs.model.afspc_epoch_to_sidereal_time.Goals as goal

pub returns : goal.returns
unfolding afspc_theta_0 tau dec of_bits round
returns c = simp (c.floor-whole.ensures, c.square.ensures, c.rem_euclid.ensures)
