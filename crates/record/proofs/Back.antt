-- Constants come back from their numbers: each place holds its field, by computation for each kind. Assumes nothing.
use mathlib.Core.Path.{◌≡◌, refl}
use Rattle.orbit.specs.declared.propagator.Resonance.TheVariants.{OneDay, HalfDay}
use Rattle.orbit.specs.declared.propagator.Resonant.{Resonant}
use Rattle.orbit.specs.declared.propagator.Resonant.TheVariants.{No, Yes}
use Rattle.orbit.specs.declared.propagator.Constants.{Constants}
use Rattle.record.specs.Record.{kind_of, numbers_of, resonant_of, constants_of, Back}

at-kind : (c : Constants) (r : Resonant) → constants_of (kind_of r) c.afspc_compatibility_mode (numbers_of (record c { resonant = r })) ≡ record c { resonant = r }
unfolding constants_of resonant_of
at-kind c (No a0) = refl
at-kind c (Yes lambda-0 lambda-dot-0 theta_0 (OneDay dr1 dr2 dr3)) = refl
at-kind c (Yes lambda-0 lambda-dot-0 theta_0 (HalfDay d2201 d2211 d3210 d3222 d4410 d4422 d5220 d5232 d5421 d5433 k14)) = refl

pub back : Back
back c = at-kind c c.resonant
