-- `elements::elements::semi_major_axis` meets its contract: its text is the definition's. Assumes nothing.
use mathlib.Core.Path.{refl}
use lib.Ieee.{of_bits, round}
use Rattle.floats.specs.Rounded.{dec}
use Rattle.elements.specs.Elements.{a_of}
use Rattle.elements.proofs.elements.semi_major_axis.Goals as goal

pub returns : goal.returns
unfolding a_of dec of_bits round
returns c = refl
