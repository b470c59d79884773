use Rattle.std.proofs.Common.{◌≡◌, map}
use Rattle.microdata.specs.SeenCodes.{seen_first}
use Rattle.microdata.proofs.reader.variables_of.Given as goal

abbrev pub invariant-fields : goal.invariant-fields
invariant-fields l = l.variables.items ≡ map (λ field. record { field = field; seen = seen_first field.source }) l.yielded
