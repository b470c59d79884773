use Rattle.std.proofs.Common.{◌≡◌, length}
use Rattle.fixture_records.proofs.lists.texts.Given as goal

abbrev pub invariant-texts : goal.invariant-texts
invariant-texts l = length l.made.items ≡ l.bytes-index
