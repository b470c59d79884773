use Rattle.std.proofs.Common.{◌≡◌, drop}
use Rattle.apriori.proofs.fields.Fields.skip.Given as goal

abbrev pub invariant-fields : goal.invariant-fields
invariant-fields l = l.self ≡ drop l.counter l.fn.self
