-- The numbers that a build is given beside the model and the orbit. Definitions only. Assumes nothing.
use Rattle.std.specs.Prelude.{Bool, ◌&&◌}
use Rattle.std.specs.Float.Ieee.Scale.{finite}
use Rattle.floats.specs.Rounded.{◌⊕◌}
use Rattle.constants.specs.declared.given.Given.{Given}
use Rattle.constants.specs.declared.given.Dots.{Dots}

-- every number is finite
abbrev pub finite_given : Given → Bool
finite_given g =
    finite g.epoch
    && finite g.p1
    && finite g.a0
    && finite g.c1
    && finite g.c4
    && finite g.k0
    && finite g.k1
    && finite g.k14
    && finite g.p14
    && finite g.p15

-- every rate is finite
abbrev pub finite_dots : Dots → Bool
finite_dots d =
    finite d.inclination
    && finite d.right_ascension
    && finite d.eccentricity
    && finite d.argument_of_perigee
    && finite d.mean_anomaly

-- the rates of the Sun and of the Moon, each pair added
unfoldable pub sum : Dots → Dots → Dots
sum s m =
    record {
      inclination = s.inclination ⊕ m.inclination;
      right_ascension = s.right_ascension ⊕ m.right_ascension;
      eccentricity = s.eccentricity ⊕ m.eccentricity;
      argument_of_perigee = s.argument_of_perigee ⊕ m.argument_of_perigee;
      mean_anomaly = s.mean_anomaly ⊕ m.mean_anomaly;
    }
