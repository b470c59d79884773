use Rattle.std.proofs.Common.{ℕ, ◌<◌, ◌-◌, length}
use Rattle.flow_worlds.specs.Searches.{IsSearchOf, StaysAt, is_reached, visited}
use Rattle.flow_worlds.proofs.search.search_from.Given as goal

abbrev pub invariant-places : goal.invariant-places
invariant-places l = record {
  search : IsSearchOf l.task l.moves l.forward l.first l.search;
  stays : (k : ℕ) → k < l.place → StaysAt l.task l.moves l.forward (is_reached l.search.reached.items) (visited l.search.visits.items k).end;
}

abbrev pub decreases-places : goal.decreases-places
decreases-places l = length l.task.arcs.now - l.place
