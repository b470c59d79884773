use Rattle.std.proofs.Common.{◌≡◌, ◌≤◌, drop, length}
use Rattle.sdc_base.specs.Cells.{trees_of}
use Rattle.sdc_base.specs.CellOrder.{is_place_in}
use Rattle.linked_tables.proofs.places.is_place.Given as goal

abbrev pub invariant-loop-k : goal.invariant-loop-k
invariant-loop-k l = record {
  rest : is_place_in (trees_of l.trees (drop l.k l.table)) (drop l.k l.place) ≡ is_place_in (trees_of l.trees l.table) l.place;
  within : l.k ≤ length l.place;
}
