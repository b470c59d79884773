-- What is said where there is no listing, a report of argus, and how the writing of one ends (own).
use Rattle.std.specs.Prelude.{◌≡◌, ◌⊎◌, ℕ, List}
use Rattle.cell_listing.specs.declared.stop.ListingStop.{ListingStop}
use Rattle.cell_listing.specs.declared.stop.ListingStop.TheVariants as stop
use Rattle.job_check.specs.declared.stop.CheckStop.{CheckStop}
use Rattle.job_check.specs.declared.stop.CheckStop.TheVariants as check
use Rattle.job_inputs.specs.declared.faults.Fault.TheVariants as fault
use Rattle.job_inputs.specs.declared.file_ref.FileRef.TheVariants as file
use Rattle.job_inputs.specs.declared.stop.InputStop.{InputStop}
use Rattle.job_inputs.specs.declared.stop.InputStop.TheVariants as input
use Rattle.job_run.specs.ReportText.{status_of}
use Rattle.job_run.specs.declared.report.Report.{Report}
use Rattle.job_run.specs.declared.report.Report.TheVariants as report
use Rattle.cell_listing.specs.declared.stop.IntervalFault.{IntervalFault}
use Rattle.cell_listing.specs.declared.stop.IntervalFault.TheVariants as interval
use Rattle.cells_prog.specs.Outputs.{OutputState, HasRefused, HasWritten}

-- what stopped the inputs of a job, as the report of its run has it
abbrev pub report_of : InputStop → Report
report_of (input.Refused fault) = report.Refused fault
report_of (input.ReadFault file) = report.ReadFault file
report_of input.Memory = report.Memory

-- why a check accepts nothing, as the report of that check has it
abbrev pub checked_report : CheckStop → Report
checked_report (check.Inputs input) = report_of input
checked_report (check.NotAccepted why) = report.NotAccepted why
checked_report (check.NotGuarded why) = report.NotGuarded why

-- the status where an interval file isn't taken: that of argus where such a file, as one that was put, is refused or can't be
-- read, or where there is no memory; a line that isn't as it must be refuses it
abbrev pub interval_status : IntervalFault → ℕ
interval_status interval.Absent = status_of (report.Refused (fault.Absent file.Out))
interval_status interval.TooLong = status_of (report.Refused (fault.TooLong file.Out))
interval_status interval.Failed = status_of (report.ReadFault file.Out)
interval_status (interval.Line number) = 2
interval_status interval.Memory = status_of report.Memory

-- the status where there is no listing: that of a report, which words that ask for none have as a usage
abbrev pub status_for : ListingStop → ℕ
status_for stop.Usage = status_of report.Usage
status_for (stop.Stopped why) = status_of (checked_report why)
status_for (stop.Intervals why) = interval_status why

-- How the end of a listing that was made is: it was written, whole and once, and the status is 0; or the output refused
-- to take it whole, and the status is that of a fault in writing.
abbrev pub IsWrittenBy : List ℕ → ℕ → OutputState → OutputState → Type 0
IsWrittenBy bytes status old new = ((status ≡ 0) × HasWritten bytes old new)
    ⊎ ((status ≡ status_of (report.WriteFault file.Out)) × HasRefused bytes old new)
