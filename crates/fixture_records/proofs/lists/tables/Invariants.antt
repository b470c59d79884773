use Rattle.std.proofs.Common.{◌≡◌, length}
use Rattle.fixture_records.proofs.lists.tables.Given as goal

abbrev pub invariant-lists : goal.invariant-lists
invariant-lists l = length l.made.items ≡ l.dimensions-index
