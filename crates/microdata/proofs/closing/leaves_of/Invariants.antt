use Rattle.std.proofs.Common.{◌≡◌, ◌≤◌, length, drop}
use Rattle.microdata.specs.Closing.{leaves_of}
use Rattle.microdata.proofs.Leaves.{with_front}
use Rattle.microdata.proofs.closing.leaves_of.Given as goal

abbrev pub invariant-loop-k : goal.invariant-loop-k
invariant-loop-k l = record {
  so_far : leaves_of l.closed l.numbers ≡ with_front l.places.items (leaves_of (drop l.k l.closed) (drop l.k l.numbers));
  count : length l.places.items ≡ l.k;
  within : l.k ≤ length l.numbers;
}
