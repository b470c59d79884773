-- The end of a cell's values to a side, among the worlds in which all cells are hidden (handbook, feasibility
-- interval).
use Rattle.std.specs.Prelude.{◌≡◌, ℕ, Bool, List, slice_get, Some}
use Rattle.sdc_base.specs.declared.cell.Cell.{Cell}
use Rattle.sdc_base.specs.declared.side.Side.{Side}
use Rattle.sdc_base.specs.declared.side.Side.TheVariants.{Above, Below}
use Rattle.sdc_base.specs.declared.system.System.{System}
use Rattle.interval_audit.specs.Ends.{IsWholeEnd}
use Rattle.interval_audit.specs.declared.ends.TwoEnds.{TwoEnds}
use Rattle.cell_intervals.specs.Intervals.{IsGreatestValue, IsLeastValue}
use Rattle.cell_intervals.specs.declared.ratio.Ratio.{Ratio}

-- the least value of a cell, or its greatest one
abbrev pub IsEndValueOf : System → List Cell → List Bool → ℕ → Cell → Side → Ratio → Type 0
IsEndValueOf system known flags number cell Below value = IsLeastValue system known flags number cell value
IsEndValueOf system known flags number cell Above value = IsGreatestValue system known flags number cell value

-- that of the cell with this number
abbrev pub IsEndValue : System → List Cell → List Bool → ℕ → Side → Ratio → Type 0
IsEndValue system known flags number side value =
    (cell : Cell) × (slice_get known number ≡ Some cell) × IsEndValueOf system known flags number cell side value

-- the answers of a cell's two questions are both in whole units
pub record AreWholeEnds (system : System) (known : List Cell) (flags : List Bool) (number : ℕ)
    (ends : TwoEnds) : Type 0 where
  pub below : IsWholeEnd system known flags number Below ends.below
  pub above : IsWholeEnd system known flags number Above ends.above
