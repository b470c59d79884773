-- Relations as totals with their parts, and marks whose truths are those of records (handbook, feasibility interval).
use Rattle.std.specs.Prelude.{◌≡◌, ℕ, ◌<◌, List, [], length, slice_get, map, slice_index, slice_index_or, All, Some, pos}
use Rattle.std.specs.Option.{option_map_or}
use Rattle.sdc_base.specs.Trees.{Tree, children}
use Rattle.sdc_base.specs.Records.{Name}
use Rattle.sdc_base.specs.Relations.{Sum, relations_among, relations_for}
use Rattle.sdc_base.specs.Sums.{truth}
use Rattle.sdc_base.specs.Systems.{Numbers, HoldOn}
use Rattle.sdc_base.specs.declared.relation.Relation.{Relation}
use Rattle.sdc_base.specs.declared.rows.Row.{Row}
use Rattle.sdc_base.specs.declared.system.System.{System}
use Rattle.linked_tables.specs.declared.mark.Mark.{Mark}
use Rattle.linked_tables.specs.BookViews.{BookView}
use Rattle.linked_tables.specs.BookCells.{cells}

-- a relation as a total and its parts
abbrev pub sum_in : Relation → Sum
sum_in r = (r.total, r.parts)

-- the system has the relations between the cells of the book
pub record IsSystemOf (book : BookView) (system : System) : Type 0 where
  pub cells : system.cells ≡ length (cells book)
  pub relations : map sum_in system.relations ≡ relations_among book.trees book.tables

-- the truth that the mark of each cell has; 0 where there is no such cell
abbrev pub truth_at : List Mark → Numbers
truth_at marks cell = option_map_or (λ mark. mark.facts.truth) (slice_get marks cell) (pos 0)

-- no record's code has children, for any variable
abbrev pub HaveNoChildren : List Tree → List Row → Type 0
HaveNoChildren trees rows =
    All (λ row. (variable : ℕ) → variable < length trees
    → children (slice_index_or trees variable []) (slice_index row.codes variable) ≡ []) rows

-- each mark's truth is that of its cell over these records
abbrev pub AreTruths : BookView → List Row → Type 0
AreTruths book rows =
    (cell : ℕ) (name : Name) (mark : Mark) → slice_get (cells book) cell ≡ Some name
    → slice_get book.marks cell ≡ Some mark → mark.facts.truth ≡ truth book.trees name rows

-- the relations hold on the truths of the book's marks
abbrev pub HoldOnTruths : BookView → System → Type 0
HoldOnTruths book system = HoldOn (truth_at book.marks) system.relations

-- the relations for a cell of the book, by variable
abbrev pub relations_of_cell : BookView → ℕ → List Sum
relations_of_cell book cell = relations_for book.trees book.tables cell (slice_index_or (cells book) cell [])
