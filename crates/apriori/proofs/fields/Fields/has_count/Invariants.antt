use Rattle.std.proofs.Common.{◌≡◌, ◌==◌, length}
use Rattle.apriori.proofs.fields.Fields.has_count.Given as goal

abbrev pub invariant-fields : goal.invariant-fields
invariant-fields l = (length l.fields == l.left) ≡ (length l.self == l.count)

abbrev pub decreases-fields : goal.decreases-fields
decreases-fields l = length l.fields
