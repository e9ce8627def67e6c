-- `coefficients::eccentricity::quadratic` meets its contract: the calls give what the definition names. Assumes nothing.
use Rattle.coefficients.specs.Eccentricity.{quadratic}
use Rattle.coefficients.proofs.eccentricity.quadratic.Goals as goal

pub returns : goal.returns
unfolding quadratic
returns c = simp c.square.ensures
