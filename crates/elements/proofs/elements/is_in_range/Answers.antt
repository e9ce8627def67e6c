-- `elements::elements::is_in_range` meets its contract: `contains` is the definition's two comparisons. Assumes nothing.
use mathlib.Core.Path.{◌∙◌}
use lib.Ieee.{of_bits, round, neg}
use Rattle.floats.specs.Rounded.{dec}
use Rattle.elements.specs.Elements.{in_range}
use Rattle.floats.proofs.Ranges.{partial_le-floats, partial_lt-floats}
use Rattle.elements.proofs.elements.is_in_range.Goals as goal

pub returns : goal.returns
unfolding in_range dec of_bits round neg
returns c = c.contains.ensures.value ∙ simp (partial_le-floats, partial_lt-floats)
