use Rattle.std.proofs.Common.{◌≡◌, ◌<◌, ◌≤◌, ◌+◌, ◌-◌, ◌++◌, [], ℕ, List, length, map, slice_index_or, option_to_list, arith, ap, sym, ◌∙◌}
use Rattle.std.specs.List.{filter_map, range_with_len}
use Rattle.std.proofs.lemmas.List.{append-nil}
use Rattle.std.proofs.lemmas.Option.{get_or_from_slice_get}
use Rattle.sdc_base.specs.Records.{Name}
use Rattle.sdc_base.specs.Relations.{Sum, relation_for, relations_for}
use Rattle.linked_tables.specs.BookCells.{cells}
use Rattle.relations.specs.Holding.{sum_in}
use Rattle.sdc_base.proofs.GrowingLists.{option-front, range-end, range-next}
use Rattle.relations.proofs.relating.add_cell.Goals as goal

pub variables-preserved : goal.variables-preserved
variables-preserved c =
    let book = c.args.book.now in
    let variable = c.variables.variable in
    let related = relation_for book.trees book.tables c.args.cell c.in-Some.name.now in
    let left : List Sum = filter_map related (range_with_len (variable + 1) (length book.trees - (variable + 1))) in
    let inside : variable < length book.trees = omega (arith, c.variables-test.true, c.variables-variable-end.ensures) in
    let more = c.in_ok-add_relation.ensures.at_most_1_more in
    let few = c.variables.invariant.few in
    record {
      rest = ap (λ (sums : List Sum). sums ++ left) c.in_ok-add_relation.ensures.added
          ∙ option-front (map sum_in c.variables.relations.items) (related variable) left
          ∙ ap (λ (numbers : List ℕ). map sum_in c.variables.relations.items ++ filter_map related numbers) (sym (range-next variable (length book.trees) inside))
          ∙ c.variables.invariant.rest;
      within = c.in_ok-add_relation.ensures.within;
      few = omega (arith, more, few);
    }

pub returns-clause-added : goal.returns-clause-added
returns-clause-added c =
    let book = c.args.book.now in
    let variable = c.variables.variable in
    let done : List Sum = map sum_in c.variables.relations.items in
    let related = relation_for book.trees book.tables c.args.cell c.in-Some.name.now in
    let end : length book.trees ≡ variable = omega (arith, c.variables-test.false, c.variables.auto.variable-end, c.variables-variable-end.ensures) in
    let name : c.in-Some.name.now ≡ slice_index_or (cells book) c.args.cell [] = sym (get_or_from_slice_get (cells book) c.args.cell c.in-Some.name.now [] (sym c.in-Some.ensures)) in
    sym (append-nil done)
    ∙ ap (λ (numbers : List ℕ). done ++ filter_map related numbers) (sym (range-end variable (length book.trees) end))
    ∙ c.variables.invariant.rest
    ∙ ap (λ (one : Name). map sum_in c.args.relations.now.items ++ relations_for book.trees book.tables c.args.cell one) name
