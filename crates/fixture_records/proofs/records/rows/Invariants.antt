use Rattle.std.proofs.Common.{◌≡◌, length}
use Rattle.fixture_records.proofs.records.rows.Given as goal

abbrev pub invariant-records : goal.invariant-records
invariant-records l = length l.rows.items ≡ l.codes-index
