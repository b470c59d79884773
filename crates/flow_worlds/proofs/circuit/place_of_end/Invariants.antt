use Rattle.std.proofs.Common.{◌≡◌, ℕ, ◌<◌, ◌≤◌, length}
use Rattle.flow_worlds.specs.Searches.{visited}
use Rattle.flow_worlds.proofs.circuit.place_of_end.Given as goal

abbrev pub invariant-places : goal.invariant-places
invariant-places l = record {
  inside : l.place < length l.visits;
  some : (k : ℕ) × (k ≤ l.place) × ((visited l.visits k).end ≡ l.point);
}

abbrev pub decreases-places : goal.decreases-places
decreases-places l = l.place
