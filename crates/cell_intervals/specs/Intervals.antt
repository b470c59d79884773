-- The feasibility intervals of hidden cells: the least and the greatest value that a complete table gives a cell, of
-- all that agree with what is shown (handbook, feasibility interval; that the upper end is open from 2^110 above the
-- truth on: own).
use Rattle.std.specs.Prelude.{◌≡◌, ◌^◌, ℕ, Bool, List, All, filter, length, map, slice_get, Some, ℤ, pos, ◌+ℤ◌, ◌*ℤ◌, ◌≤ℤ◌, ◌<ℤ◌}
use Rattle.std.specs.List.{range_with_len}
use Rattle.sdc_base.specs.declared.cell.Cell.{Cell}
use Rattle.sdc_base.specs.declared.side.Side.TheVariants.{Above, Below}
use Rattle.sdc_base.specs.declared.system.System.{System}
use Rattle.sdc_base.specs.HiddenSets.{is_hidden}
use Rattle.sdc_base.specs.Systems.{Numbers}
use Rattle.sdc_base.specs.Worlds.{IsWorld, value_over}
use Rattle.interval_audit.specs.Ends.{IsWholeEnd}
use Rattle.interval_audit.specs.declared.ends.TwoEnds.{TwoEnds}
use Rattle.cell_intervals.specs.declared.ratio.Ratio.{Ratio}
use Rattle.cell_intervals.specs.declared.interval.CellInterval.{CellInterval}
use Rattle.cell_intervals.specs.declared.interval.UpperEnd.{UpperEnd}
use Rattle.cell_intervals.specs.declared.interval.UpperEnd.TheVariants.{At, Open}

-- some world for the hidden set gives the cell exactly this value
abbrev pub IsAttained : System → List Cell → List Bool → ℕ → Cell → Ratio → Type 0
IsAttained system cells flags number cell value =
    (den : ℤ) × (moves : Numbers) × IsWorld system cells flags den moves
    × (value_over den cell (moves number) *ℤ pos value.den ≡ pos value.num *ℤ den)

-- the least value that a world gives the cell: one does, and none of any denominator gives it less
pub record IsLeastValue (system : System) (cells : List Cell) (flags : List Bool) (number : ℕ) (cell : Cell)
    (low : Ratio) : Type 0 where
  pub attained : IsAttained system cells flags number cell low
  pub least : (den : ℤ) (moves : Numbers) → IsWorld system cells flags den moves
      → (pos low.num *ℤ den) ≤ℤ (value_over den cell (moves number) *ℤ pos low.den)

-- the greatest value that a world gives the cell: one does, and none of any denominator gives it more
pub record IsGreatestValue (system : System) (cells : List Cell) (flags : List Bool) (number : ℕ) (cell : Cell)
    (high : Ratio) : Type 0 where
  pub attained : IsAttained system cells flags number cell high
  pub greatest : (den : ℤ) (moves : Numbers) → IsWorld system cells flags den moves
      → (value_over den cell (moves number) *ℤ pos high.den) ≤ℤ (pos high.num *ℤ den)

-- a value is less than 2^110 above the cell's truth
abbrev pub IsBelowOpen : Cell → Ratio → Type 0
IsBelowOpen cell value = pos value.num <ℤ (pos value.den *ℤ (cell.truth +ℤ pos (2 ^ 110)))

-- The upper end of the cell's interval: the greatest value, where that is less than 2^110 above its truth, and open
-- where some world gives the cell 2^110 more than its truth.
abbrev pub IsUpperEnd : System → List Cell → List Bool → ℕ → Cell → UpperEnd → Type 0
IsUpperEnd system cells flags number cell (At high) = IsGreatestValue system cells flags number cell high
    × IsBelowOpen cell high
IsUpperEnd system cells flags number cell Open =
    (den : ℤ) × (moves : Numbers) × IsWorld system cells flags den moves
    × (value_over den cell (moves number) ≡ den *ℤ (cell.truth +ℤ pos (2 ^ 110)))

-- the interval of a cell: from the least value that a world gives it to the upper end
pub record IsIntervalOf (system : System) (cells : List Cell) (flags : List Bool)
    (interval : CellInterval) : Type 0 where
  pub cell : Cell
  pub known : slice_get cells interval.cell ≡ Some cell
  pub low : IsLeastValue system cells flags interval.cell cell interval.low
  pub high : IsUpperEnd system cells flags interval.cell cell interval.high

-- the numbers of the hidden cells, ascending
abbrev pub hidden_cells : List Bool → List ℕ
hidden_cells flags = filter (is_hidden flags) (range_with_len 0 (length flags))

-- the intervals of the hidden cells: one for each, ascending, and none for a shown cell
pub record AreIntervals (system : System) (cells : List Cell) (flags : List Bool)
    (intervals : List CellInterval) : Type 0 where
  pub numbers : map (λ interval. interval.cell) intervals ≡ hidden_cells flags
  pub each : All (IsIntervalOf system cells flags) intervals

-- some world over the denominator 1 gives the cell exactly so many units
abbrev pub IsAttainedWhole : System → List Cell → List Bool → ℕ → Cell → ℤ → Type 0
IsAttainedWhole system cells flags number cell units =
    (moves : Numbers) × IsWorld system cells flags (pos 1) moves
    × (value_over (pos 1) cell (moves number) ≡ units)

-- the value is a whole number of units, and some world over the denominator 1 gives it to the cell
abbrev pub IsWholeValue : System → List Cell → List Bool → ℕ → Cell → Ratio → Type 0
IsWholeValue system cells flags number cell value = (value.den ≡ 1)
    × IsAttainedWhole system cells flags number cell (pos value.num)

-- the upper end is a whole number of units, or open, and some world over the denominator 1 attains it
abbrev pub IsWholeUpperEnd : System → List Cell → List Bool → ℕ → Cell → UpperEnd → Type 0
IsWholeUpperEnd system cells flags number cell (At high) = IsWholeValue system cells flags number cell high
IsWholeUpperEnd system cells flags number cell Open =
    IsAttainedWhole system cells flags number cell (cell.truth +ℤ pos (2 ^ 110))

-- the value is whole for the cell with this number, if there is such a cell
abbrev pub IsWholeValueAt : System → List Cell → List Bool → ℕ → Ratio → Type 0
IsWholeValueAt system cells flags number value =
    (cell : Cell) → slice_get cells number ≡ Some cell → IsWholeValue system cells flags number cell value

-- the upper end is whole for the cell with this number, if there is such a cell
abbrev pub IsWholeUpperEndAt : System → List Cell → List Bool → ℕ → UpperEnd → Type 0
IsWholeUpperEndAt system cells flags number end =
    (cell : Cell) → slice_get cells number ≡ Some cell → IsWholeUpperEnd system cells flags number cell end

-- Both ends of the cell's interval are whole, and worlds over the denominator 1 attain them. Not: an end of 21 over 2.
pub record HasWholeEnds (system : System) (cells : List Cell) (flags : List Bool)
    (interval : CellInterval) : Type 0 where
  pub cell : Cell
  pub known : slice_get cells interval.cell ≡ Some cell
  pub low : IsWholeValue system cells flags interval.cell cell interval.low
  pub high : IsWholeUpperEnd system cells flags interval.cell cell interval.high

-- where the answers of a cell's two questions are both whole, so are both ends of its interval
abbrev pub KeepsWholeEnds : System → List Cell → List Bool → ℕ → TwoEnds → CellInterval → Type 0
KeepsWholeEnds system cells flags number ends interval =
    IsWholeEnd system cells flags number Below ends.below → IsWholeEnd system cells flags number Above ends.above
    → HasWholeEnds system cells flags interval
