-- What a rounded release protects: how far the worlds of the release take each primary cell to both sides, and whether
-- that is its level, with a world and multipliers that show it (handbook, feasibility interval; linear duality; that a
-- rounded release is audited so: own).
use Rattle.std.specs.Prelude.{◌≡◌, ◌↔◌, IsTrue, ℕ, List, All, filter, length, map, slice_get, Some, ℤ, pos, ◌-ℤ◌, ◌*ℤ◌, ◌≤ℤ◌}
use Rattle.std.specs.List.{range_with_len}
use Rattle.sdc_base.specs.declared.cell.Cell.{Cell}
use Rattle.sdc_base.specs.declared.side.Side.{Side}
use Rattle.sdc_base.specs.declared.side.Side.TheVariants.{Above, Below}
use Rattle.sdc_base.specs.declared.system.System.{System}
use Rattle.sdc_base.specs.Forms.{coefficient}
use Rattle.sdc_base.specs.Kinds.{is_primary_at}
use Rattle.sdc_base.specs.Refutations.{bound_sum}
use Rattle.sdc_base.specs.Systems.{Numbers}
use Rattle.sdc_base.specs.Worlds.{amount_toward, value_over}
use Rattle.worlds.specs.declared.multipliers.Multipliers.{Multipliers}
use Rattle.worlds.specs.declared.world.World.{World}
use Rattle.worlds.specs.NumberLists.{IsListed, number_given, terms_of}
use Rattle.worlds.specs.RefutationFaults.{IsGivenSum, terms_added}
use Rattle.cell_intervals.specs.declared.ratio.Ratio.{Ratio}
use Rattle.rounding_audit.specs.Readers.{AreReaderCells, IsCovered, IsReaderWorld, all_hidden}
use Rattle.rounding_audit.specs.declared.audited.AuditedCell.{AuditedCell}
use Rattle.rounding_audit.specs.declared.audited.AuditedEnd.{AuditedEnd}

-- what is given is a world of the release: its moves are listed, and with 0 for all other cells they make one
pub record IsGivenReaderWorld (system : System) (cells : List Cell) (values : List ℤ) (base : ℤ)
    (world : World) : Type 0 where
  pub listed : IsListed system.cells (terms_of world.moves)
  pub is_world : IsReaderWorld system cells values base world.den (number_given (terms_of world.moves))

-- an amount over the denominator is a fraction
abbrev pub IsFraction : Ratio → ℤ → ℤ → Type 0
IsFraction value den amount = amount *ℤ pos value.den ≡ pos value.num *ℤ den

-- an amount over the denominator lies no further to the side than a fraction
abbrev pub IsNoFurther : Side → Ratio → ℤ → ℤ → Type 0
IsNoFurther Below value den amount = (pos value.num *ℤ den) ≤ℤ (amount *ℤ pos value.den)
IsNoFurther Above value den amount = (amount *ℤ pos value.den) ≤ℤ (pos value.num *ℤ den)

-- how far a fraction lies from the cell's truth to the side, times its denominator
abbrev pub distance_over : Side → Cell → Ratio → ℤ
distance_over side cell value = amount_toward side (pos value.num -ℤ cell.truth *ℤ pos value.den)

-- Multipliers that stop the cell at a value: their bound sum, over the cells with the reader's bounds and all hidden, is
-- exactly as many times the distance to the value as they count the cell.
pub record AreStopping (system : System) (known : List Cell) (number : ℕ) (cell : Cell) (side : Side) (value : Ratio)
    (multipliers : Multipliers) : Type 0 where
  pub is_sum : IsGivenSum system known (all_hidden system.cells) number side multipliers
  pub equal : bound_sum known (all_hidden system.cells) (coefficient (terms_added system number side multipliers)) *ℤ
      pos value.den ≡ multipliers.den *ℤ distance_over side cell value

-- The end of a cell's values to a side: the world beside it attains it, no world of the release goes further, the
-- multipliers stop the cell there, and it is told whether the cell is covered to the side.
pub record IsAuditedEnd (system : System) (cells : List Cell) (values : List ℤ) (base : ℤ) (number : ℕ) (side : Side)
    (end : AuditedEnd) : Type 0 where
  pub cell : Cell
  pub cell_is : slice_get cells number ≡ Some cell
  pub world : IsGivenReaderWorld system cells values base end.world
  pub attained : IsFraction end.value end.world.den
      (value_over end.world.den cell (number_given (terms_of end.world.moves) number))
  pub farthest : (den : ℤ) (moves : Numbers) → IsReaderWorld system cells values base den moves
      → IsNoFurther side end.value den (value_over den cell (moves number))
  pub known : List Cell
  pub known_are : AreReaderCells cells values base known
  pub stopping : AreStopping system known number cell side end.value end.stop
  pub covered : IsTrue end.covered ↔ IsCovered system cells values base number side

-- the two ends of a primary cell
pub record IsAuditedCell (system : System) (cells : List Cell) (values : List ℤ) (base : ℤ)
    (one : AuditedCell) : Type 0 where
  pub below : IsAuditedEnd system cells values base one.cell Below one.below
  pub above : IsAuditedEnd system cells values base one.cell Above one.above

-- the numbers of the primary cells, ascending
abbrev pub primary_cells : List Cell → List ℕ
primary_cells cells = filter (is_primary_at cells) (range_with_len 0 (length cells))

-- The end is a whole number of units, and the world beside it is one in whole units. Not: an end of 9 over 2.
pub record IsIntegral (end : AuditedEnd) : Type 0 where
  pub value : end.value.den ≡ 1
  pub world : end.world.den ≡ pos 1

-- both ends of a cell are whole
abbrev pub HasWholeEnds : AuditedCell → Type 0
HasWholeEnds one = IsIntegral one.below × IsIntegral one.above

-- the audit of a rounded release: the two ends of each primary cell, ascending
pub record IsAudit (system : System) (cells : List Cell) (values : List ℤ) (base : ℤ)
    (audited : List AuditedCell) : Type 0 where
  pub numbers : map (λ one. one.cell) audited ≡ primary_cells cells
  pub each : All (IsAuditedCell system cells values base) audited
