use Rattle.std.proofs.Common.{◌≡◌, ◌≤◌, ◌-◌, fold, get_or, length}
use Rattle.sdc_base.specs.CutTrees.{is_within}
use Rattle.sdc_base.specs.Cells.{cut_tree, with_name}
use Rattle.linked_tables.specs.Tables.{most_cells}
use Rattle.linked_tables.proofs.Below.{names_begun}
use Rattle.linked_tables.proofs.PlaceSteps.{no_dimension}
use Rattle.linked_tables.proofs.numbering.+name_below.Given as goal

abbrev pub decreases-name_below : goal.decreases-name_below
decreases-name_below l = length l.table.now - length l.place.now

abbrev pub invariant-codes : goal.invariant-codes
invariant-codes l = record {
  added : l.names ≡ fold with_name l.fn.names (names_begun l.trees l.table l.place (is_within (cut_tree l.trees (get_or l.table (length l.place) no_dimension))) l.code);
  room : length l.names ≤ most_cells;
}
