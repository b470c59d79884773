-- Which contributor alone makes up which cell (own).
use Rattle.std.specs.Prelude.{◌≡◌, ◌≢◌, ℕ, ◌==◌, Bool, true, false, List, slice_get, slice_index_or, Option, None, Some}
use Rattle.std.specs.Option.{option_map_or}
use Rattle.sdc_base.specs.Trees.{Tree}
use Rattle.sdc_base.specs.Records.{Name, row_falls}
use Rattle.sdc_base.specs.Sums.{freq}
use Rattle.sdc_base.specs.declared.rows.Row.{Row}
use Rattle.linked_tables.specs.declared.mark.Mark.{Mark}
use Rattle.linked_tables.specs.BookViews.{BookView}
use Rattle.linked_tables.specs.BookCells.{cells}

-- the marks tell how many records fall in each cell
abbrev pub TellFrequencies : BookView → List Row → Type 0
TellFrequencies book rows =
    (cell : ℕ) (name : Name) (mark : Mark) → slice_get (cells book) cell ≡ Some name
    → slice_get book.marks cell ≡ Some mark → mark.facts.freq ≡ freq book.trees name rows

-- the record at this place falls in the cell with this name; none does at a place behind the last
abbrev pub falls_at : List Tree → List Row → Name → ℕ → Bool
falls_at trees rows name place = option_map_or (row_falls trees name) (slice_get rows place) false

-- The cell's one record stands at this place, or there isn't exactly one. Not: the first of several.
abbrev pub IsSole : List Tree → List Row → Name → Option ℕ → Type 0
IsSole trees rows name None = freq trees name rows ≢ 1
IsSole trees rows name (Some place) = (freq trees name rows ≡ 1) × (falls_at trees rows name place ≡ true)

-- for each cell the place of its one record, where it has exactly one
abbrev pub AreSoles : BookView → List Row → List (Option ℕ) → Type 0
AreSoles book rows soles =
    (cell : ℕ) (name : Name) → slice_get (cells book) cell ≡ Some name
    → IsSole book.trees rows name (slice_index_or soles cell None)

-- whether this is the record at the place
abbrev pub is_sole : ℕ → Option ℕ → Bool
is_sole row sole = option_map_or (λ one. one == row) sole false
