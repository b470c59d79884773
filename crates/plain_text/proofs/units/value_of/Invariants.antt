use Rattle.std.proofs.Common.{◌≡◌, ◌<◌, ◌++◌, replicate}
use Rattle.std.specs.Str.Parse.{digits_value}
use Rattle.sdc_base.specs.Numbers.{too_wide}
use Rattle.plain_text.proofs.units.value_of.Given as goal

abbrev pub invariant-zeros : goal.invariant-zeros
invariant-zeros l = record { value : l.value ≡ digits_value 10 ((l.fn.front ++ l.fn.back) ++ replicate l.counter 48); narrow : l.value < too_wide }
