-- The marked examples hold: each row by computation. Assumes nothing.
use mathlib.Core.Path.{refl}
use lib.Ieee.{round, sum, add, sub, neg, lt, le}
use Rattle.floats.specs.Rounded.{dec}
use Rattle.orbit.specs.Class.{one_day, half_day}
use Rattle.elements.specs.Elements.{in_range}
use Rattle.times.specs.Time.{refusal, plan, back}
use Rattle.resonance.specs.Advance.{advance_of}
use Rattle.stepping.specs.Examples.{Examples}

pub examples : Examples
unfolding advance_of plan back refusal one_day half_day in_range dec round sum add sub neg lt le
examples c n l = ((refl, refl), ((refl, refl), ((refl, refl), ((refl, refl), ((refl, refl), ((refl, refl), (refl, ((refl, refl), ((refl, refl), (refl, (refl, (refl, (refl, (refl, (refl, tt)))))))))))))))
