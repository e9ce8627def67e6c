-- What each field of line two is. Definitions only. Assumes nothing.
use Rattle.std.specs.Prelude.{ℕ, ◌+◌, ◌-◌, Bool, ◌&&◌, leb}

-- in the columns of a line, a point inside it or right behind it, at most eleven columns: of its first column, its point and its last
abbrev pub shaped : ℕ → ℕ → ℕ → Bool
shaped first point last =
    leb 1 first
    && (leb first point
    && (leb point (last + 1)
    && (leb last 68
    && leb (last - first) 10)))
