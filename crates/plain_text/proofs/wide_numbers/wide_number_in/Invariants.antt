use Rattle.std.proofs.Common.{◌≡◌, ◌≤◌, drop}
use Rattle.std.specs.Str.{all_ascii_digits}
use Rattle.std.specs.Str.Parse.{digits_value, digits_value_after}
use Rattle.plain_text.proofs.wide_numbers.wide_number_in.Given as goal

abbrev pub invariant-digits : goal.invariant-digits
invariant-digits l = record {
  digits : all_ascii_digits l.fn.digits ≡ all_ascii_digits (drop l.b-index l.fn.digits);
  value : digits_value 10 l.fn.digits ≡ digits_value_after 10 l.value (drop l.b-index l.fn.digits);
  within : l.value ≤ l.high;
}
