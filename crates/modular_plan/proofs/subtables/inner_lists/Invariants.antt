use Rattle.std.proofs.Common.{◌≡◌, ◌++◌, drop, length, map}
use Rattle.sdc_base.specs.Cells.{trees_of}
use Rattle.sdc_base.specs.Subtables.{inner_codes}
use Rattle.modular_plan.proofs.subtables.inner_lists.Given as goal

abbrev pub invariant-variables : goal.invariant-variables
invariant-variables l = record {
  rest : l.lists.items ++ map inner_codes (trees_of l.book.trees (drop l.k l.table)) ≡ map inner_codes (trees_of l.book.trees l.table);
  few : length l.lists.items ≡ l.k;
}
