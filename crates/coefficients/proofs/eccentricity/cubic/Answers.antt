-- `coefficients::eccentricity::cubic` meets its contract: the calls give what the definition names. Assumes nothing.
use Rattle.coefficients.specs.Eccentricity.{cubic}
use Rattle.coefficients.proofs.eccentricity.cubic.Goals as goal

pub returns : goal.returns
unfolding cubic
returns c = simp (c.square.ensures, c.cube.ensures)
