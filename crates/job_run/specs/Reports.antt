-- A report of any run: when the tray is as it was, and the cause of each fault (own).
use Rattle.std.specs.Prelude.{◌≡◌, Result, Ok, Err}
use Rattle.sdc_base.specs.Counts.{HasRisen}
use Rattle.office_io.specs.Shelves.{ShelfState}
use Rattle.office_io.specs.Trays.{TrayState}
use Rattle.job_inputs.specs.Reading.{HasCause}
use Rattle.job_inputs.specs.declared.file_ref.FileRef.{FileRef}
use Rattle.job_inputs.specs.declared.stop.InputStop.{InputStop}
use Rattle.job_inputs.specs.declared.stop.InputStop.TheVariants as input
use Rattle.job_run.specs.declared.report.Report.{Report}
use Rattle.job_run.specs.declared.report.Report.TheVariants as report

-- a report after which the tray is as it was, whatever the shelf tells
abbrev pub LeavesAll : Report → TrayState → TrayState → Type 0
LeavesAll report.Accepted old new = new ≡ old
LeavesAll (report.Demo demo) old new = new ≡ old
LeavesAll report.Usage old new = new ≡ old
LeavesAll (report.Refused reason) old new = new ≡ old
LeavesAll (report.Cannot cell side multipliers) old new = new ≡ old
LeavesAll (report.CannotAgainst row cell side multipliers) old new = new ≡ old
LeavesAll report.NoRounding old new = new ≡ old
LeavesAll (report.NotAccepted why) old new = new ≡ old
LeavesAll (report.NotGuarded why) old new = new ≡ old
LeavesAll (report.Undecided why repairs shown against) old new = new ≡ old
LeavesAll (report.ReadFault file) old new = new ≡ old
LeavesAll other old new = Unit {0}

-- what a report says of the reading of files: what stopped it, if that did
abbrev pub reading_of : Report → Result (Unit {0}) InputStop
reading_of (report.Refused reason) = Err (input.Refused reason)
reading_of (report.ReadFault file) = Err (input.ReadFault file)
reading_of report.Memory = Err input.Memory
reading_of other = Ok tt

-- Each fault has its cause, whatever shelf and tray tell: what stopped the reading has the cause that it always has, and
-- a file that can't be written was counted as a fault.
pub record FaultsHaveCauses (answer : Report) (old new : ShelfState) (before after : TrayState) : Type 0 where
  pub reading : HasCause (reading_of answer) old new
  pub write_fault : (f : FileRef) → answer ≡ report.WriteFault f → HasRisen before.faults after.faults
