use Rattle.std.proofs.Common.{◌≡◌, ◌≤◌, ◌+◌, ◌-◌, ◌++◌, [], length, map, slice_index_or, All}
use Rattle.std.specs.List.{filter_map, range_with_len}
use Rattle.sdc_base.specs.Relations.{relation_for, relations_for}
use Rattle.sdc_base.specs.Systems.{NamesCells}
use Rattle.relations.specs.Holding.{sum_in}
use Rattle.relations.proofs.relating.add_cell.Given as goal

abbrev pub invariant-variables : goal.invariant-variables
invariant-variables l = record {
  rest : map sum_in l.relations.items ++ filter_map (relation_for l.book.trees l.book.tables l.cell l.name) (range_with_len l.variable (length l.book.trees - l.variable)) ≡ map sum_in l.fn.relations.items ++ relations_for l.book.trees l.book.tables l.cell l.name;
  within : All (NamesCells (length l.book.marks)) l.relations.items;
  few : length l.relations.items ≤ length l.fn.relations.items + l.variable;
}
