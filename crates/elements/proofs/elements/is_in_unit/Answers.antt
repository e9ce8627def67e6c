-- `elements::elements::is_in_unit` meets its contract: `contains` is the definition's two comparisons. Assumes nothing.
use mathlib.Core.Path.{◌∙◌}
use lib.Ieee.{of_bits, round}
use Rattle.floats.specs.Rounded.{dec}
use Rattle.elements.specs.Elements.{in_unit}
use Rattle.floats.proofs.Ranges.{partial_le-floats}
use Rattle.elements.proofs.elements.is_in_unit.Goals as goal

pub returns : goal.returns
unfolding in_unit dec of_bits round
returns c =
    c.contains.ensures.value ∙ simp (c.new.ensures.start, c.new.ensures.end, c.new.ensures.exhausted, partial_le-floats)
