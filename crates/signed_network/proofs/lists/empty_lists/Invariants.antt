use Rattle.std.proofs.Common.{◌≡◌, ℕ, [], length, get_or}
use Rattle.signed_network.proofs.lists.empty_lists.Given as goal

abbrev pub invariant-lists : goal.invariant-lists
invariant-lists l = record {
  many : length l.lists.items ≡ l.counter;
  empty : (cell : ℕ) → get_or l.lists.items cell [] ≡ [];
}
