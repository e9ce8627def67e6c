-- `coefficients::half_day::coefficients` meets its contract: the calls give what the definition names. Assumes nothing.
use lib.Ieee.{of_bits, round}
use Rattle.floats.specs.Rounded.{dec}
use Rattle.coefficients.proofs.half_day.coefficients.Goals as goal

pub returns : goal.returns
unfolding dec of_bits round
returns c =
    simp (
      c.p18-p.ensures,
      c.d2201.ensures,
      c.d2211.ensures,
      c.d3210.ensures,
      c.d3222.ensures,
      c.d4410.ensures,
      c.d4422.ensures,
      c.d5220.ensures,
      c.d5232.ensures,
      c.d5421.ensures,
      c.d5433.ensures,
    )
