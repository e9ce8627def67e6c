-- The whole turn is twice π, by computation: each decimal is a float, and the product of floats is one. Assumes nothing.
use mathlib.Core.Path.{◌≡◌, refl, sym, ap₂, ◌∙◌}
use lib.Ieee.{Float, binary64, round, mul, of_bits}
use Rattle.floats.specs.Rounded.{◌⊗◌, dec}
use Rattle.orbit.specs.Model.{pi, tau, Turn}

tau-is : tau ≡ of_bits binary64 0x4019_21FB_5444_2D18
unfolding tau dec round of_bits
tau-is = refl

pi-is : pi ≡ of_bits binary64 0x4009_21FB_5444_2D18
unfolding pi dec round of_bits
pi-is = refl

two_is : dec 2 0 ≡ of_bits binary64 0x4000_0000_0000_0000
unfolding dec round of_bits
two_is = refl

twice : of_bits binary64 0x4000_0000_0000_0000 ⊗ of_bits binary64 0x4009_21FB_5444_2D18 ≡ of_bits binary64 0x4019_21FB_5444_2D18
unfolding of_bits mul round
twice = refl

pub turn : Turn
turn = tau-is ∙ sym (ap₂ (λ (x y : Float). x ⊗ y) two_is pi-is ∙ twice)
