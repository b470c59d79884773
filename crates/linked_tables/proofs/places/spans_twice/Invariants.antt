use Rattle.std.proofs.Common.{◌≡◌, drop}
use Rattle.linked_tables.specs.Tables.{has_twice}
use Rattle.linked_tables.proofs.places.spans_twice.Given as goal

abbrev pub invariant-loop-k : goal.invariant-loop-k
invariant-loop-k l = has_twice (drop l.k l.table) ≡ has_twice l.table
