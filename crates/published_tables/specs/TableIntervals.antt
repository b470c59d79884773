-- What hidden sets come to, when the intervals of the cells that they hide are asked for (handbook, feasibility
-- interval; own).
use Rattle.std.specs.Prelude.{◌≡◌, ◌≢◌, ◌↔◌, ℕ, Bool, true, All, List, length}
use Rattle.sdc_base.specs.HiddenSets.{is_hidden}
use Rattle.sdc_base.specs.declared.system.System.{System}
use Rattle.interval_audit.specs.declared.answer.AskFault.{AskFault}
use Rattle.interval_audit.specs.declared.answer.AskFault.TheVariants as ask
use Rattle.interval_audit.specs.WalkLimits.{HasNoWalk}
use Rattle.relations.specs.Holding.{IsSystemOf}
use Rattle.relations.specs.TableSigns.{IsOneOrTwoWay}
use Rattle.cell_intervals.specs.IntervalFaults.{HasSmallComponent, IsFaultAt, IsFaultOf}
use Rattle.cell_intervals.specs.IntervalTexts.{interval_text}
use Rattle.cell_intervals.specs.Intervals.{AreIntervals, HasWholeEnds}
use Rattle.cell_intervals.specs.Laws.{IsSize}
use Rattle.cell_intervals.specs.declared.interval.CellInterval.{CellInterval}
use Rattle.job_inputs.specs.declared.settled.ClassifiedJob.{ClassifiedJob}
use Rattle.published_tables.specs.TableFiles.{FileOfTables}
use Rattle.published_tables.specs.HiddenLines.{flags_in}
use Rattle.published_tables.specs.declared.interval_file.IntervalFile.{IntervalFile}

-- Each cell is hidden or shown, and the file is that of the intervals of the hidden ones: each of them, ascending, with
-- the least and the greatest value that a complete table gives it, as a text, and their number. No component has too
-- many hidden cells. Where the job has one table of one variable, or of two flat ones, all ends are whole, and complete
-- tables in whole units attain them.
pub record IsIntervalFileFor (job : ClassifiedJob) (flags : List Bool) (file : IntervalFile) : Type 0 where
  pub one_each : length flags ≡ length job.cells
  pub system : System
  pub intervals : List CellInterval
  pub system_is : IsSystemOf job.book system
  pub are : AreIntervals system job.cells flags intervals
  pub whole : IsOneOrTwoWay job.book.trees job.book.tables → All (HasWholeEnds system job.cells flags) intervals
  pub small : (cell : ℕ) → is_hidden flags cell ≡ true → HasSmallComponent system flags cell
  pub bytes : file.bytes ≡ interval_text intervals
  pub cells : file.cells ≡ length intervals

-- The fault is that of the first question about a hidden cell that has no answer within the job's steps, and isn't want
-- of memory. It is that a component has too many hidden cells exactly where that of the question's cell has. Where the
-- job has one table of one variable, or of two flat ones, no walk stopped short.
pub record AreIntervalsStuckAt (job : ClassifiedJob) (flags : List Bool) (why : AskFault) : Type 0 where
  pub system : System
  pub system_is : IsSystemOf job.book system
  pub not_memory : why ≢ ask.Memory
  pub fault : IsFaultOf system job.cells flags job.described.job.steps why
  pub large : (cell : ℕ) → IsFaultAt system job.cells flags job.described.job.steps why cell
      → IsSize why ↔ (¬ HasSmallComponent system flags cell)
  pub signed : IsOneOrTwoWay job.book.trees job.book.tables → HasNoWalk why

-- Intervals of tables: they show a hidden set without fixed cells, which has no further fault, and the file is that of
-- its intervals.
abbrev pub intervals_of_tables : FileOfTables (List Bool) IntervalFile
intervals_of_tables = record {
  read = flags_in;
  is_file = IsIntervalFileFor;
  has_fault = λ job flags why. ⊥;
  is_stuck = AreIntervalsStuckAt;
}
