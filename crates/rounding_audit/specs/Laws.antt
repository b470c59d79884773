-- What the faults of an audit have to do with the components of its cells (own).
use Rattle.std.specs.Prelude.{◌≢◌, ◌↔◌, ℕ, List}
use Rattle.sdc_base.specs.declared.cell.Cell.{Cell}
use Rattle.sdc_base.specs.declared.system.System.{System}
use Rattle.interval_audit.specs.declared.answer.AskFault.{AskFault}
use Rattle.interval_audit.specs.declared.answer.AskFault.TheVariants as ask
use Rattle.cell_intervals.specs.IntervalFaults.{HasSmallComponent}
use Rattle.cell_intervals.specs.Laws.{IsSize}
use Rattle.rounding_audit.specs.AuditFaults.{IsQuestionFaultAt}
use Rattle.rounding_audit.specs.Readers.{all_hidden}

-- The fault at a primary cell, where all earlier questions have ended, is that its component is too large exactly where
-- the component has more than 4,000 cells; want of memory aside.
abbrev pub SizeIsLarge : Type 0
SizeIsLarge =
    (system : System) (cells known : List Cell) (limit number : ℕ) (why : AskFault)
    → why ≢ ask.Memory → IsQuestionFaultAt system cells known limit why number
    → IsSize why ↔ (¬ HasSmallComponent system (all_hidden system.cells) number)
