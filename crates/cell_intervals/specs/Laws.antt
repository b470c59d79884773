-- What the intervals of hidden cells and their faults have to do with one another (own).
use Rattle.std.specs.Prelude.{◌≡◌, ◌≢◌, ◌↔◌, ℕ, Bool, List}
use Rattle.sdc_base.specs.declared.cell.Cell.{Cell}
use Rattle.sdc_base.specs.declared.system.System.{System}
use Rattle.interval_audit.specs.declared.answer.AskFault.{AskFault}
use Rattle.interval_audit.specs.declared.answer.AskFault.TheVariants as fault
use Rattle.cell_intervals.specs.declared.interval.CellInterval.{CellInterval}
use Rattle.cell_intervals.specs.IntervalFaults.{HasSmallComponent, IsFaultAt}
use Rattle.cell_intervals.specs.Intervals.{AreIntervals}
use Rattle.cell_intervals.specs.IntervalTexts.{interval_text}

-- the intervals of a hidden set have one file: any two lists that are its intervals have the same text
abbrev pub FileIsOne : Type 0
FileIsOne =
    (system : System) (cells : List Cell) (flags : List Bool) (one other : List CellInterval)
    → AreIntervals system cells flags one → AreIntervals system cells flags other
    → interval_text one ≡ interval_text other

-- the fault is that a component is too large
abbrev pub IsSize : AskFault → Type 0
IsSize (fault.Size asked hidden) = Unit {0}
IsSize other = ⊥

-- The fault at a hidden cell, where all earlier questions have ended, is that its component is too large exactly where
-- the component has more than 4,000 hidden cells; want of memory aside.
abbrev pub SizeIsLarge : Type 0
SizeIsLarge =
    (system : System) (cells : List Cell) (flags : List Bool) (limit cell : ℕ) (why : AskFault)
    → why ≢ fault.Memory → IsFaultAt system cells flags limit why cell
    → IsSize why ↔ (¬ HasSmallComponent system flags cell)
