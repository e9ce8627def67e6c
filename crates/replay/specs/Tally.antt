-- What counting a case does to a tally. Definitions only. Assumes nothing.
use Rattle.std.specs.Prelude.{ℕ, ◌+◌, ◌-◌, ◌^◌, Bool, min, if◌then◌else◌}
use Rattle.replay.specs.declared.tally.Tally.{Tally}

-- one more, up to what 64 bits hold
abbrev pub one_more : ℕ → ℕ
one_more n = min (n + 1) (2 ^ 64 - 1)

-- the tally with one more case, that passes or not
abbrev pub counted : Bool → Tally → Tally
counted passes t = record {
  passed = if passes then one_more t.passed else t.passed;
  total = one_more t.total;
}
