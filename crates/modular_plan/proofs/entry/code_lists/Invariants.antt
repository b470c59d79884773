use Rattle.std.proofs.Common.{◌≡◌, ◌++◌, drop, length}
use Rattle.modular_plan.specs.SubtablePlaces.{code_lists}
use Rattle.modular_plan.proofs.entry.code_lists.Given as goal

abbrev pub invariant-variables : goal.invariant-variables
invariant-variables l = record {
  rest : l.lists.items ++ code_lists l.book.trees (drop l.k l.table) (drop l.k l.subtable.parents) ≡ code_lists l.book.trees l.table l.subtable.parents;
  few : length l.lists.items ≡ l.k;
}
