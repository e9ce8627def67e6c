-- The worked examples hold, by computation. Assumes nothing.
use mathlib.Core.Path.{refl}
use Rattle.line.specs.Read.{read_of, ranged, turned, numbers_of, number_of, value_of, digit_of, weight_of, check_digit, first_not, not_padded, bad_fraction, bad_field, bad_from, first_bad}
use Rattle.line.specs.Examples.{Examples}

pub examples : Examples
unfolding read_of ranged turned numbers_of number_of value_of digit_of weight_of check_digit first_not not_padded bad_fraction bad_field bad_from first_bad
examples =
    record {
      line = refl;
      cut_short = refl;
      check_digit = refl;
      bad_column = refl;
      blank_behind_digit = refl;
      inclination = refl;
      angle = refl;
      line_number = refl;
    }
