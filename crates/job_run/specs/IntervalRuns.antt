-- What a run for intervals answers, and what it leaves on the tray (handbook, feasibility interval; own).
use Rattle.std.specs.Prelude.{◌≡◌, ℕ, List, Result, IsOkAnd}
use Rattle.office_io.specs.Shelves.{ShelfState}
use Rattle.office_io.specs.Trays.{TrayState, HasPut, HasPutInPart}
use Rattle.job_inputs.specs.ClassifiedJobs.{HasOnlyLookedOn}
use Rattle.job_inputs.specs.declared.faults.Fault.{Fault}
use Rattle.job_inputs.specs.declared.purpose.Purpose.TheVariants as purpose
use Rattle.job_inputs.specs.declared.file_ref.FileRef.TheVariants as file
use Rattle.published_tables.specs.TableIntervals.{intervals_of_tables}
use Rattle.published_tables.specs.TableFiles.{AreRefusedFor, IsFileOf, IsUndecidedFor}
use Rattle.published_tables.specs.TablesOnShelf.{ShelvedTables, shelved_of, IntervalsComeTo}
use Rattle.published_tables.specs.declared.interval_file.IntervalFile.{IntervalFile}
use Rattle.job_run.specs.CommandRuns.{Ends, IsRunOf}
use Rattle.job_run.specs.Puts.{HasAtMostOnePut}
use Rattle.job_run.specs.Reporting.{IsQuestionReport}
use Rattle.job_run.specs.declared.report.Report.{Report}
use Rattle.job_run.specs.declared.report.Report.TheVariants as report

-- what a run for intervals ends with: they were found, the tables have this fault, a question stopped short, or the
-- file can't be put
abbrev pub IsIntervalEnd : Ends ShelvedTables
IsIntervalEnd Holds (report.Intervals cells) = Holds (λ shelved. Unit {0})
IsIntervalEnd Holds (report.NotAccepted why) = Holds (λ shelved. AreRefusedFor intervals_of_tables shelved why)
IsIntervalEnd Holds (report.Undecided why repairs shown against) = Holds (λ shelved.
    IsQuestionReport (IsUndecidedFor intervals_of_tables shelved) (report.Undecided why repairs shown against))
IsIntervalEnd Holds (report.WriteFault f) = Holds (λ shelved. f ≡ file.Out)
IsIntervalEnd Holds other = ⊥

-- the file of the intervals of so many cells stands under its name, put once
pub record IsIntervalPut (shelved : ShelvedTables) (out : List ℕ) (cells : ℕ) (before after : TrayState) : Type 0 where
  pub intervals : IntervalFile
  pub is_file : IsFileOf intervals_of_tables shelved intervals
  pub number : cells ≡ intervals.cells
  pub put : HasPut out intervals.bytes before after

-- the first bytes of the file of the intervals stand under its name, put once
pub record IsIntervalPart (shelved : ShelvedTables) (out : List ℕ) (before after : TrayState) : Type 0 where
  pub intervals : IntervalFile
  pub is_file : IsFileOf intervals_of_tables shelved intervals
  pub put : HasPutInPart out intervals.bytes before after

-- What the tray holds afterwards: the file of the intervals, or after a write fault its first bytes; else all is as it
-- was.
abbrev pub IntervalsLeave : List ℕ → Report → Result ShelvedTables Fault → TrayState → TrayState → Type 0
IntervalsLeave out (report.Intervals cells) outcome before after = IsOkAnd outcome
    (λ shelved. IsIntervalPut shelved out cells before after)
IntervalsLeave out (report.WriteFault f) outcome before after = IsOkAnd outcome
    (λ shelved. IsIntervalPart shelved out before after)
IntervalsLeave out other outcome before after = after ≡ before

-- A run for the intervals of the job of this name, to be put under the name `out`: whatever the shelf and the tray tell,
-- one put was made where it says that intervals were found and no second one, and the shelf was only looked at.
pub record IsIntervalRunOf (name out : List ℕ) (answer : Report) (old new : ShelfState)
    (before after : TrayState) : Type 0 where
  pub run : IsRunOf (λ fs. shelved_of fs name out) (λ fs. IntervalsComeTo fs name out) IsIntervalEnd
      (IntervalsLeave out) answer old new before after
  pub one_put : (cells : ℕ) → answer ≡ report.Intervals cells → (bytes : List ℕ) × HasPut out bytes before after
  pub at_most_one_put : HasAtMostOnePut out before after
  pub shelf : HasOnlyLookedOn purpose.Intervals name old new
