use Rattle.std.proofs.Common.{◌≡◌, ◌<◌, take}
use Rattle.std.specs.Str.Parse.{digits_value_after}
use Rattle.sdc_base.specs.Numbers.{too_wide}
use Rattle.plain_text.proofs.units.value_after.Given as goal

abbrev pub invariant-loop-b : goal.invariant-loop-b
invariant-loop-b l = record { value : l.value ≡ digits_value_after 10 l.start (take l.b-index l.digits); narrow : l.value < too_wide }
