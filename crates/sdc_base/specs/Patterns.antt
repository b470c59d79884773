-- What a question about a hidden set stands on (own).
use Rattle.std.specs.Prelude.{◌≡◌, Bool, List, length}
use Rattle.sdc_base.specs.declared.cell.Cell.{Cell}
use Rattle.sdc_base.specs.declared.system.System.{System}

-- There are a cell and a flag for each cell of the system. Not: as many as some relation names.
pub record IsPattern (system : System) (cells : List Cell) (flags : List Bool) : Type 0 where
  pub each_cell : length cells ≡ system.cells
  pub each_flag : length flags ≡ system.cells
