-- The resonant longitude λ₀ at the epoch and its rate λ̇₀, in the Rust's grouping. Definitions only. Assumes nothing.
use Rattle.std.specs.Prelude.{Float}
use Rattle.floats.specs.Rounded.{◌⊕◌, ◌⊖◌, ◌⊗◌, ◌rem◌, dec}
use Rattle.orbit.specs.Model.{tau}
use Rattle.orbit.specs.declared.propagator.Orbit.{Orbit}
use Rattle.constants.specs.declared.given.Given.{Given}
use Rattle.constants.specs.declared.given.Dots.{Dots}

-- the sidereal speed θ̇, in rad a minute
unfoldable pub sidereal_speed : Float
sidereal_speed = dec 437526908801129966 20

-- λ₀ of a one-day orbit, from the sidereal time θ₀
unfoldable pub one_day_lambda_0 : Orbit → Float → Float
one_day_lambda_0 o theta = (o.mean_anomaly ⊕ o.right_ascension ⊕ o.argument_of_perigee ⊖ theta) rem tau

-- λ̇₀ of a one-day orbit, from the rates of the Sun and of the Moon together
unfoldable pub one_day_lambda_dot_0 : Orbit → Given → Dots → Float
one_day_lambda_dot_0 o g d =
    g.p15 ⊕ (g.k14 ⊕ g.p14) ⊖ sidereal_speed
    ⊕ d.mean_anomaly
    ⊕ d.argument_of_perigee
    ⊕ d.right_ascension
    ⊖ o.mean_motion

-- λ₀ of a half-day orbit
unfoldable pub half_day_lambda_0 : Orbit → Float → Float
half_day_lambda_0 o theta = (o.mean_anomaly ⊕ o.right_ascension ⊕ o.right_ascension ⊖ theta ⊖ theta) rem tau

-- λ̇₀ of a half-day orbit, from the rates of the Sun and of the Moon together
unfoldable pub half_day_lambda_dot_0 : Orbit → Given → Dots → Float
half_day_lambda_dot_0 o g d =
    g.p15 ⊕ d.mean_anomaly ⊕ dec 2 0 ⊗ (g.p14 ⊕ d.right_ascension ⊖ sidereal_speed) ⊖ o.mean_motion
