-- Which tables can stand in a book, and the first of them that can't (tau-ARGUS user manual, linked tables; limit and
-- order: own).
use Rattle.std.specs.Prelude.{ℕ, ◌||◌, nat_le, nat_lt, Bool, false, List, [], ◌∷◌, ◌++◌, length, map, if◌then◌else◌, Option, None, Some, Result, Ok, Err}
use Rattle.std.specs.List.{list_any}
use Rattle.sdc_base.specs.Trees.{Tree}
use Rattle.sdc_base.specs.Records.{Name}
use Rattle.sdc_base.specs.Cells.{cells_of, spans, whole_table}
use Rattle.sdc_base.specs.declared.dimension.Dimension.{Dimension}
use Rattle.linked_tables.specs.declared.book_fault.BookFault.{BookFault}
use Rattle.linked_tables.specs.declared.book_fault.BookFault.TheVariants as fault

-- the most cells that a book has
abbrev pub most_cells : ℕ
most_cells = 60000

-- it spans a variable that isn't one of so many
abbrev pub has_unknown : ℕ → List Dimension → Bool
has_unknown variables table = list_any (λ dimension. nat_le variables dimension.variable) table

-- it spans a variable twice, to whatever depths
abbrev pub has_twice : List Dimension → Bool
has_twice [] = false
has_twice (dimension ∷ table) = spans table dimension.variable || has_twice table

-- the first of both, or the second
abbrev pub or_later : {X : Type 0} → Option X → Option X → Option X
or_later (Some x) later = Some x
or_later None later = later

-- the fault of table t for its variables: one that there isn't, or one that stands twice
abbrev pub variables_fault : ℕ → ℕ → List Dimension → Option BookFault
variables_fault variables t table =
    if has_unknown variables table then Some (fault.NoSuchVariable t) else if has_twice table
    then Some (fault.TwiceInTable t) else None

-- the fault of table t for the cells of it and all tables before it: they are too many. Not: the cells of table t
-- alone, nor the places of all tables, in which a shared cell stands more than once.
abbrev pub cells_fault : ℕ → List Name → Option BookFault
cells_fault t names = if nat_lt most_cells (length names) then Some (fault.TooManyCells t) else None

-- the fault of a table that stands behind these: that of its variables, or else that of the cells up to it
abbrev pub table_fault : List Tree → List (List Dimension) → List Dimension → Option BookFault
table_fault trees before table =
    or_later (variables_fault (length trees) (length before) table)
    (cells_fault (length before) (cells_of trees (before ++ table ∷ [])))

-- the fault of the first table that has one, of those that stand behind these
abbrev pub first_table_fault : List Tree → List (List Dimension) → List (List Dimension) → Option BookFault
first_table_fault trees before [] = None
first_table_fault trees before (table ∷ tables) = or_later (table_fault trees before table)
    (first_table_fault trees (before ++ table ∷ []) tables)

-- this value, unless there is a fault
abbrev pub unless_fault : {X : Type 0} → Option BookFault → X → Result X BookFault
unless_fault None x = Ok x
unless_fault (Some one) x = Err one

-- the trees and the tables of a book, or the fault of the first table that has one
abbrev pub book_with_depths : List Tree → List (List Dimension)
    → Result (List Tree × List (List Dimension)) BookFault
book_with_depths trees tables = unless_fault (first_table_fault trees [] tables) (trees, tables)

-- the same for tables that have all codes of the variables that they span
abbrev pub book_of : List Tree → List (List ℕ) → Result (List Tree × List (List Dimension)) BookFault
book_of trees tables = book_with_depths trees (map whole_table tables)

-- the fault that an error names; want of memory names none
abbrev pub book_fault_of : BookFault → Option BookFault
book_fault_of fault.Memory = None
book_fault_of one = Some one
