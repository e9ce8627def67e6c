-- `floats::atan::atan2` meets its contract: each answer is the case that the two tests pick. Assumes nothing.
use mathlib.Core.Path.{sym}
use lib.Ieee.{of_bits, round}
use Rattle.floats.specs.Rounded.{dec}
use Rattle.floats.specs.Atan.{arc_of}
use Rattle.floats.proofs.atan.atan2.Goals as goal

pub returns-then-not-is_finite : goal.returns-then-not-is_finite
unfolding arc_of dec of_bits round
returns-then-not-is_finite c = simp (sym c.is_finite.ensures, sym c.is_finite-2.ensures, c.if-not-is_finite.true)

pub returns-then-y : goal.returns-then-y
unfolding arc_of dec of_bits round
returns-then-y c =
    simp (sym c.is_finite.ensures, sym c.is_finite-2.ensures, c.if-not-is_finite.false, c.if-y.true, c.along.ensures)

pub returns-else-y : goal.returns-else-y
unfolding arc_of dec of_bits round
returns-else-y c =
    simp (sym c.is_finite.ensures, sym c.is_finite-2.ensures, c.if-not-is_finite.false, c.if-y.false, c.pointed.ensures)
