-- How a run reports what stopped one of its steps (own).
use Rattle.std.specs.Prelude.{◌≡◌, ℕ, List, [], Option, None, Some}
use Rattle.attackers.specs.declared.extra.Against.{Against}
use Rattle.contributor_protection.specs.declared.guarding.GuardFailure.{GuardFailure}
use Rattle.contributor_protection.specs.declared.guarding.GuardFailure.TheVariants as guard_failure
use Rattle.interval_audit.specs.declared.answer.AskFault.{AskFault}
use Rattle.interval_audit.specs.declared.answer.AskFault.TheVariants as ask
use Rattle.repair.specs.declared.stopped.Stopped.{Stopped}
use Rattle.rounding.specs.declared.fault.RoundFault.{RoundFault}
use Rattle.rounding.specs.declared.fault.RoundFault.TheVariants as round
use Rattle.worlds.specs.declared.refuted.Refuted.{Refuted}
use Rattle.job_inputs.specs.declared.stop.InputStop.{InputStop}
use Rattle.job_inputs.specs.declared.stop.InputStop.TheVariants as input
use Rattle.job_inputs.specs.declared.file_ref.FileRef.{FileRef}
use Rattle.plain_text.specs.Stops.{stop_error}
use Rattle.plain_text.specs.declared.stop.Stop.{Stop}
use Rattle.job_run.specs.declared.report.Report.{Report}
use Rattle.job_run.specs.declared.report.Report.TheVariants as report
use Rattle.job_run.specs.declared.report.Stuck.TheVariants as stuck

-- what stopped the reading of inputs
abbrev pub inputs_report : InputStop → Report
inputs_report (input.Refused reason) = report.Refused reason
inputs_report (input.ReadFault file) = report.ReadFault file
inputs_report input.Memory = report.Memory

-- what stopped the puts
abbrev pub puts_report : Stop FileRef → Report
puts_report = stop_error report.WriteFault report.Memory

-- a question that stopped short, with the repairs and the shown cells until then, and against whom it is
abbrev pub stuck_report : AskFault → List Refuted → List ℕ → Option Against → Report
stuck_report (ask.Work walk) repairs shown against = report.Undecided (stuck.Work walk) repairs shown against
stuck_report (ask.Wide walk place) repairs shown against =
    report.Undecided (stuck.Wide walk place) repairs shown against
stuck_report (ask.Size question hidden) repairs shown against =
    report.Undecided (stuck.Size question hidden) repairs shown against
stuck_report ask.Memory repairs shown against = report.Memory

-- a question about released tables that stopped short: nothing was repaired, and no cell shown again
abbrev pub question_report : AskFault → Report
question_report fault = stuck_report fault [] [] None

-- a protection that stopped short
abbrev pub stopped_report : Stopped → Report
stopped_report stopped = stuck_report stopped.fault stopped.repairs stopped.shown None

-- why a hidden set isn't guarded
abbrev pub guard_failure_report : GuardFailure → Report
guard_failure_report (guard_failure.CannotAgainst found) =
    report.CannotAgainst found.attack.row found.attack.cell found.attack.side found.multipliers
guard_failure_report (guard_failure.Undecided stopped against) =
    stuck_report stopped.fault stopped.repairs stopped.shown (Some against)
guard_failure_report guard_failure.Memory = report.Memory

-- a search for a rounding that found none, which repairs nothing and shows no cells again
abbrev pub search_report : RoundFault → Report
search_report round.NoRounding = report.NoRounding
search_report (round.Nodes nodes) = report.Undecided (stuck.Nodes nodes) [] [] None
search_report round.Memory = report.Memory

-- the report is that of a question that stopped short, of which this holds
pub record IsQuestionReport (IsStuck : AskFault → Type 0) (answer : Report) : Type 0 where
  pub fault : AskFault
  pub is_report : answer ≡ question_report fault
  pub is_stuck : IsStuck fault
