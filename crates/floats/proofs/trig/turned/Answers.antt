-- `floats::trig::turned` meets its contract: the calls give what the definition names. Assumes nothing.
use lib.Ieee.{of_bits, round}
use Rattle.floats.specs.Rounded.{dec}
use Rattle.floats.specs.Trig.{turned}
use Rattle.floats.proofs.trig.turned.Goals as goal

pub returns : goal.returns
unfolding turned dec of_bits round
returns c = simp (c.sine_kernel-s.ensures, c.cosine_kernel-c.ensures, c.swing-b.ensures, c.swing-a.ensures)
