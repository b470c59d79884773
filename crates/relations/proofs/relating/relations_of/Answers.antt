use Rattle.std.proofs.Common.{◌≡◌, ◌<◌, ◌≤◌, ◌+◌, ◌*◌, ◌-◌, ◌++◌, ◌∷◌, [], ℕ, List, length, map, slice_index_or, arith, ap, subst, sym, ◌∙◌, append_assoc}
use Rattle.std.specs.List.{flat_map, range_with_len}
use Rattle.std.proofs.lemmas.List.{append-nil}
use Rattle.sdc_base.specs.Relations.{Sum, relations_among, relations_for}
use Rattle.sdc_base.specs.Systems.{HoldOn}
use Rattle.sdc_base.specs.declared.relation.Relation.{Relation}
use Rattle.linked_tables.specs.BookCells.{cells}
use Rattle.relations.specs.Holding.{sum_in, truth_at}
use Rattle.sdc_base.proofs.GrowingLists.{range-end, range-next}
use Rattle.relations.proofs.Holding.{relations-hold}
use Rattle.relations.proofs.relating.relations_of.Goals as goal

pub numbers-preserved : goal.numbers-preserved
numbers-preserved c =
    let book = c.args.book.now in
    let cell = c.numbers.cell in
    let related : ℕ → List Sum = λ (one : ℕ). relations_for book.trees book.tables one (slice_index_or (cells book) one []) in
    let left : List Sum = flat_map related (range_with_len (cell + 1) (length (cells book) - (cell + 1))) in
    let done : List Sum = map sum_in c.numbers.relations.items in
    let inside : cell < length (cells book) = omega (arith, c.numbers-test.true, c.cells-cells.ensures.cells) in
    let more = c.in_ok-add_cell.ensures.at_most_8_more in
    let few = c.numbers.invariant.few in
    record {
      rest = ap (λ (sums : List Sum). sums ++ left) c.in_ok-add_cell.ensures.added
          ∙ append_assoc done (related cell) left
          ∙ ap (λ (numbers : List ℕ). done ++ flat_map related numbers) (sym (range-next cell (length (cells book)) inside))
          ∙ c.numbers.invariant.rest;
      within = c.in_ok-add_cell.ensures.within;
      few = omega (arith, more, few);
    }

pub returns-clause-hold : goal.returns-clause-hold
returns-clause-hold c = λ rows coded bare told.
    let book = c.args.book.now in
    let done : List Sum = map sum_in c.numbers.relations.items in
    let related : ℕ → List Sum = λ (one : ℕ). relations_for book.trees book.tables one (slice_index_or (cells book) one []) in
    let end : length (cells book) ≡ c.numbers.cell = omega (arith, c.numbers-test.false, c.cells-cells.ensures.cells) in
    let made : done ≡ relations_among book.trees book.tables =
    sym (append-nil done)
    ∙ ap (λ (numbers : List ℕ). done ++ flat_map related numbers) (sym (range-end c.numbers.cell (length (cells book)) end))
    ∙ c.numbers.invariant.rest
    in
    subst (λ (relations : List Relation). HoldOn (truth_at book.marks) relations) (sym c.new.ensures)
    (relations-hold book rows c.numbers.relations.items c.cells-cells.ensures.book coded bare told made)
