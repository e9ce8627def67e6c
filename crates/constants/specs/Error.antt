-- Document 01's number of a refused build or geometry. Definition only. Assumes nothing.
use Rattle.std.specs.Prelude.{ℕ}
use Rattle.constants.specs.declared.error.BuildError.{BuildError}
use Rattle.constants.specs.declared.error.BuildError.TheVariants.{NumberNotFinite, AngleOutside, NotFinite}

abbrev pub number : BuildError → ℕ
number NumberNotFinite = 3
number AngleOutside = 9
number NotFinite = 13
