use Rattle.std.proofs.Common.{All, take}
use Rattle.flow_worlds.specs.Searches.{Grows, IsSearchOf, StaysOver, first_step, is_reached, visited}
use Rattle.flow_worlds.proofs.search.go_on.Given as goal

abbrev pub invariant-cells : goal.invariant-cells
invariant-cells l = record {
  search : IsSearchOf l.task l.moves l.forward (first_step l.fn.search) l.search;
  grows : Grows l.fn.search l.search;
  stays : All (StaysOver l.task l.moves l.forward (is_reached l.search.reached.items) (visited l.fn.search.visits.items l.place).end) (take l.cell-index l.cell-items);
}
