use Rattle.std.proofs.Common.{◌≡◌, length}
use Rattle.fixture_records.proofs.trees.pairs.Given as goal

abbrev pub invariant-trees : goal.invariant-trees
invariant-trees l = length l.trees.items ≡ l.counter
