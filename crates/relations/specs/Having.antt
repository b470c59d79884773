-- Which table has a cell, seen from the codes of its name (own).
use Rattle.std.specs.Prelude.{ℕ, ◌+◌, ◌&&◌, Bool, true, List, [], ◌∷◌, slice_index}
use Rattle.sdc_base.specs.Trees.{Tree}
use Rattle.sdc_base.specs.Records.{Name}
use Rattle.sdc_base.specs.Cells.{is_named, named_by}
use Rattle.sdc_base.specs.Relations.{spans_below}
use Rattle.sdc_base.specs.declared.dimension.Dimension.{Dimension}
use Rattle.linked_tables.specs.Laws.{is_code}

-- from this variable on, each code is one that the table's cells can have
abbrev pub has_codes : List Tree → List Dimension → ℕ → Name → Bool
has_codes trees table variable [] = true
has_codes trees table variable (code ∷ name) = is_code trees table variable code
    && has_codes trees table (variable + 1) name

-- the table spans the variable, goes below the name's code for it, and has the cell with this name
abbrev pub has_spanned : List Tree → Name → ℕ → List Dimension → Bool
has_spanned trees name variable table = spans_below trees variable (slice_index name variable) table
    && is_named (named_by trees table) name
