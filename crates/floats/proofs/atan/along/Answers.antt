-- `floats::atan::along` meets its contract: each answer is the case that the two signs pick. Assumes nothing.
use mathlib.Core.Path.{sym, ◌∙◌}
use lib.Ieee.{of_bits, round}
use Rattle.floats.specs.Rounded.{dec}
use Rattle.floats.specs.Atan.{along}
use Rattle.floats.proofs.atan.along.Goals as goal

pub returns-then-is_negative-2 : goal.returns-then-is_negative-2
unfolding along dec of_bits round
returns-then-is_negative-2 c = simp (sym c.is_negative-then-is_negative.ensures ∙ c.if-is_negative-2.true, sym c.is_negative.ensures ∙ c.if-is_negative.true)

pub returns-then-is_negative : goal.returns-then-is_negative
unfolding along dec of_bits round
returns-then-is_negative c = simp (sym c.is_negative-then-is_negative.ensures ∙ c.if-is_negative-2.false, sym c.is_negative.ensures ∙ c.if-is_negative.true)

pub returns : goal.returns
unfolding along dec of_bits round
returns c = simp (sym c.is_negative.ensures ∙ c.if-is_negative.false)
