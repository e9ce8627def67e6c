-- `elements::elements::perturbed_eccentricity` meets its contract: each arm is that of the test. Assumes nothing.
use lib.Ieee.{of_bits, round}
use Rattle.floats.specs.Rounded.{dec}
use Rattle.elements.specs.Elements.{perturbed}
use Rattle.elements.proofs.elements.perturbed_eccentricity.Goals as goal

pub returns-then-p31 : goal.returns-then-p31
unfolding perturbed dec of_bits round
returns-then-p31 c = simp c.if-p31.true

pub returns : goal.returns
unfolding perturbed dec of_bits round
returns c = simp c.if-p31.false
