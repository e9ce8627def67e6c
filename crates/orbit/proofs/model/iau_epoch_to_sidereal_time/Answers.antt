-- `orbit::model::iau_epoch_to_sidereal_time` meets its contract: the calls give what the definition names. Assumes nothing.
use lib.Ieee.{of_bits, round}
use Rattle.floats.specs.Rounded.{dec}
use Rattle.orbit.specs.Model.{pi, tau, iau_theta_0}
use Rattle.orbit.proofs.model.iau_epoch_to_sidereal_time.Goals as goal

pub returns : goal.returns
unfolding iau_theta_0 pi tau dec of_bits round
returns c = simp (c.cube.ensures, c.square.ensures, c.rem_euclid.ensures)
