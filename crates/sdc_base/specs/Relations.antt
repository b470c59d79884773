-- Relations between cells: a cell whose code has children in some table is the sum of the cells that have one of these in
-- its place (handbook, feasibility interval; the numbering own).
use Rattle.std.specs.Prelude.{ℕ, ◌==◌, ◌&&◌, Bool, not, List, [], length, slice_index, slice_index_or, slice_set, bytes_eq, if◌then◌else◌, Option, None, Some}
use Rattle.std.specs.List.{list_any, filter_map, flat_map, range_with_len}
use Rattle.sdc_base.specs.Trees.{Tree, children}
use Rattle.sdc_base.specs.Records.{Name}
use Rattle.sdc_base.specs.Places.{first_place}
use Rattle.sdc_base.specs.CutTrees.{goes_below}
use Rattle.sdc_base.specs.Cells.{cells_of, cut_tree, is_named, named_by}
use Rattle.sdc_base.specs.declared.dimension.Dimension.{Dimension}

-- a total and its parts, each by its number
abbrev pub Sum : Type 0
Sum = ℕ × List ℕ

-- the codes right below a cell's code for a variable
abbrev pub codes_below : List Tree → Name → ℕ → List ℕ
codes_below trees name variable = children (slice_index_or trees variable []) (slice_index name variable)

-- the table spans the variable, and goes below this code of it
abbrev pub spans_below : List Tree → ℕ → ℕ → List Dimension → Bool
spans_below trees variable code table =
    list_any (λ dimension. dimension.variable == variable && goes_below (cut_tree trees dimension) code) table

-- Some table has the cell, spans the variable, and goes below the cell's code for it. Not: one table has the cell, and
-- another one goes below its code.
abbrev pub is_spanned : List Tree → List (List Dimension) → Name → ℕ → Bool
is_spanned trees tables name variable =
    list_any (λ table. spans_below trees variable (slice_index name variable) table && is_named (named_by trees table) name)
    tables

-- the number of the cell with this name
abbrev pub number_among : List Name → Name → Option ℕ
number_among cells name = first_place (bytes_eq name) cells

-- the cells that have one of these codes for the variable, and for each other variable the code of the name
abbrev pub parts_among : List Name → Name → ℕ → List ℕ → List ℕ
parts_among cells name variable codes = filter_map (λ code. number_among cells (slice_set name variable code)) codes

-- the relation of a cell for a variable: there is one where some table has the cell, spans the variable, and has codes
-- right below the cell's
abbrev pub relation_for : List Tree → List (List Dimension) → ℕ → Name → ℕ → Option Sum
relation_for trees tables cell name variable =
    if is_spanned trees tables name variable && not (length (codes_below trees name variable) == 0)
    then Some (cell, parts_among (cells_of trees tables) name variable (codes_below trees name variable))
    else None

-- the relations of a cell, by variable
abbrev pub relations_for : List Tree → List (List Dimension) → ℕ → Name → List Sum
relations_for trees tables cell name =
    filter_map (relation_for trees tables cell name) (range_with_len 0 (length trees))

-- the relations of the cells of tables, by cell and then by variable
abbrev pub relations_among : List Tree → List (List Dimension) → List Sum
relations_among trees tables =
    flat_map (λ cell. relations_for trees tables cell (slice_index_or (cells_of trees tables) cell []))
    (range_with_len 0 (length (cells_of trees tables)))
