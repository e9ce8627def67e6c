-- `elements::elements::numbers` meets its contract: its text is the definition's. Assumes nothing.
use lib.Ieee.{of_bits, round, neg}
use Rattle.floats.specs.Rounded.{dec}
use Rattle.elements.specs.Elements.{elements_at}
use Rattle.elements.proofs.elements.numbers.Goals as goal

pub returns : goal.returns
unfolding elements_at dec of_bits round neg
returns c = simp c.divisor.ensures
