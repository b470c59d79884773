-- When values are those of a rounded release, and else why not: the first cell that isn't rounded, or else the first
-- relation that doesn't hold (zero-restricted controlled rounding; own).
use Rattle.std.specs.Prelude.{◌≡◌, ◌≢◌, ℕ, ◌<◌, List, length, map, take, slice_get, Some, ℤ, pos}
use Rattle.sdc_base.specs.declared.cell.Cell.{Cell}
use Rattle.sdc_base.specs.declared.relation.Relation.{Relation}
use Rattle.sdc_base.specs.declared.system.System.{System}
use Rattle.sdc_base.specs.Roundings.{IsAdjacent}
use Rattle.sdc_base.specs.Systems.{HoldOn, form, number_at}
use Rattle.rounding_audit.specs.declared.reader_fault.ReaderFault.{ReaderFault}
use Rattle.rounding_audit.specs.declared.reader_fault.ReaderFault.TheVariants as fault

-- the truths of cells
abbrev pub truths_of : List Cell → List ℤ
truths_of cells = map (λ cell. cell.truth) cells

-- the cell with this number shows a multiple of the base next to its truth
abbrev pub IsRoundedAt : List Cell → List ℤ → ℤ → ℕ → Type 0
IsRoundedAt cells values base number = IsAdjacent base (number_at (truths_of cells) number) (number_at values number)

-- all cells before this one show such multiples
abbrev pub AreRoundedBelow : List Cell → List ℤ → ℤ → ℕ → Type 0
AreRoundedBelow cells values base most = (number : ℕ) → number < most → IsRoundedAt cells values base number

-- this is the first cell that doesn't
pub record IsFirstUnrounded (cells : List Cell) (values : List ℤ) (base : ℤ) (number : ℕ) : Type 0 where
  pub known : number < length cells
  pub unrounded : ¬ IsRoundedAt cells values base number
  pub earlier : AreRoundedBelow cells values base number

-- this is the first relation that doesn't hold on the values
pub record IsFirstBroken (relations : List Relation) (values : List ℤ) (number : ℕ) : Type 0 where
  pub relation : Relation
  pub known : slice_get relations number ≡ Some relation
  pub broken : form (number_at values) relation ≢ pos 0
  pub earlier : HoldOn (number_at values) (take number relations)

-- all cells are rounded, and this is the first relation that doesn't hold on the values
pub record IsBrokenFirst (system : System) (cells : List Cell) (values : List ℤ) (base : ℤ) (number : ℕ) : Type 0 where
  pub rounded : AreRoundedBelow cells values base (length cells)
  pub first : IsFirstBroken system.relations values number

-- why values aren't those of a rounded release; want of memory is free
abbrev pub IsReaderFault : System → List Cell → List ℤ → ℤ → ReaderFault → Type 0
IsReaderFault system cells values base (fault.Rounded number) = IsFirstUnrounded cells values base number
IsReaderFault system cells values base (fault.Relation number) = IsBrokenFirst system cells values base number
IsReaderFault system cells values base fault.Memory = Unit {0}
