-- Which cells are hidden, and which sets of hidden cells are permitted (handbook, secondary suppression; fixed cells:
-- own).
use Rattle.std.specs.Prelude.{◌≡◌, ℕ, Bool, true, false, List, map, fold, slice_get, slice_set, slice_index_or, Some}
use Rattle.sdc_base.specs.declared.cell.Cell.{Cell}
use Rattle.sdc_base.specs.declared.cell.Kind.{Kind}
use Rattle.sdc_base.specs.declared.cell.Kind.TheVariants.{Primary, Free, Fixed}
use Rattle.sdc_base.specs.Kinds.{is_primary}

-- the cell with this number is hidden, by a flag for each cell; else it is shown
abbrev pub is_hidden : List Bool → ℕ → Bool
is_hidden flags cell = slice_index_or flags cell false

-- the set is permitted: it holds every primary cell and no fixed cell
pub record IsPermitted (cells : List Cell) (flags : List Bool) : Type 0 where
  pub primary_hidden : (number : ℕ) (cell : Cell) → slice_get cells number ≡ Some cell → cell.kind ≡ Primary
      → is_hidden flags number ≡ true
  pub fixed_shown : (number : ℕ) (cell : Cell) → slice_get cells number ≡ Some cell → cell.kind ≡ Fixed
      → is_hidden flags number ≡ false

-- a cell of this kind may be hidden
abbrev pub may_hide : Kind → Bool
may_hide Primary = true
may_hide Free = true
may_hide Fixed = false

-- there is a cell with this number, and it may be hidden
pub record MayHide (cells : List Cell) (number : ℕ) : Type 0 where
  pub cell : Cell
  pub found : slice_get cells number ≡ Some cell
  pub may : may_hide cell.kind ≡ true

-- the full set: all cells that aren't fixed
abbrev pub full_set : List Cell → List Bool
full_set cells = map (λ cell. may_hide cell.kind) cells

-- the primary cells alone
abbrev pub primary_set : List Cell → List Bool
primary_set cells = map (λ cell. is_primary cell.kind) cells

-- ---- edits of a hidden set; a number of no cell changes nothing

-- the set with this cell hidden
abbrev pub hide : List Bool → ℕ → List Bool
hide flags cell = slice_set flags cell true

-- the set with this cell shown
abbrev pub show : List Bool → ℕ → List Bool
show flags cell = slice_set flags cell false

-- the set with these cells hidden too
abbrev pub hide_cells : List Bool → List ℕ → List Bool
hide_cells flags cells = fold hide flags cells
