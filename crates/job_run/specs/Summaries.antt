-- What a demonstration says of how its run went on (own).
use Rattle.std.specs.Prelude.{ℕ, List, Result, Ok, Err}
use Rattle.interval_audit.specs.declared.answer.AskFault.TheVariants as ask
use Rattle.sdc_base.specs.declared.memory.Memory.{Memory}
use Rattle.worlds.specs.declared.refuted.Refuted.{Refuted}
use Rattle.job_run.specs.Demos.{with_release, with_status, with_question}
use Rattle.job_run.specs.declared.put.Release.{Release}
use Rattle.job_run.specs.ReportText.{status_of}
use Rattle.job_run.specs.declared.report.DemoSummary.{DemoSummary}
use Rattle.job_run.specs.declared.report.Report.{Report}
use Rattle.job_run.specs.declared.report.Report.TheVariants as report
use Rattle.job_run.specs.declared.report.Stuck.{Stuck}
use Rattle.job_run.specs.declared.report.Stuck.TheVariants as stuck

-- what stopped short
abbrev pub stuck_demo : Stuck → List Refuted → List ℕ → DemoSummary
stuck_demo (stuck.Work walk) repairs shown = with_question (ask.Work walk) repairs shown
stuck_demo (stuck.Wide walk place) repairs shown = with_question (ask.Wide walk place) repairs shown
stuck_demo (stuck.Size question hidden) repairs shown = with_question (ask.Size question hidden) repairs shown
stuck_demo (stuck.Nodes nodes) repairs shown = with_status 4

-- what stopped a run: a question, or the status of its report; want of memory is the one answer that says nothing
abbrev pub stopped_demo : Report → Result DemoSummary Memory
stopped_demo (report.Undecided why repairs shown against) = Ok (stuck_demo why repairs shown)
stopped_demo report.Memory = Err (record {})
stopped_demo other = Ok (with_status (status_of other))

-- a release, or what stopped the run
abbrev pub demo_of : Result Release Report → Result DemoSummary Memory
demo_of (Ok release) = Ok (with_release release)
demo_of (Err stop) = stopped_demo stop
