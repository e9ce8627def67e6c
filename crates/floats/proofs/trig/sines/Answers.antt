-- `floats::trig::sines` meets its contract: each answer is the case that the test of the magnitude picks. Assumes nothing.
use mathlib.Core.Path.{◌≡◌, sym, ap, ◌∙◌}
use mathlib.Core.Bool.{Bool, true, false}
use lib.Ieee.{Float, le, of_bits, round}
use Rattle.floats.specs.Rounded.{dec, magnitude}
use Rattle.floats.specs.Trig.{wave_of, direct_limit, angle_limit}
use Rattle.floats.proofs.trig.sines.Goals as goal

-- a test of the magnitude, where m is that
of-magnitude : (m x l : Float) (b : Bool) → m ≡ magnitude x → le m l ≡ b → le (magnitude x) l ≡ b
of-magnitude m x l b e t = ap (λ (y : Float). le y l) (sym e) ∙ t

pub returns-then-m : goal.returns-then-m
unfolding wave_of direct_limit dec of_bits round
returns-then-m c =
    simp (of-magnitude c.magnitude-m.result c.args.x direct_limit true c.magnitude-m.ensures c.if-m.true, c.sine_kernel.ensures, c.cosine_kernel.ensures)

pub returns : goal.returns
unfolding wave_of direct_limit angle_limit dec of_bits round
returns c =
    simp (
      of-magnitude c.magnitude-m.result c.args.x direct_limit false c.magnitude-m.ensures c.if-m.false,
      c.magnitude-m.ensures,
      c.quarters-k.ensures,
      c.reduced.ensures,
      c.turned.ensures,
    )
