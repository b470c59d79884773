-- What a demonstration answers: what a run over its files in memory comes to (own).
use Rattle.std.specs.Prelude.{◌≡◌, ℕ, List, None, Some}
use Rattle.demo_files.specs.DemoFiles.{demo_files, job_name}
use Rattle.demo_files.specs.SteadyFiles.{shelf_with, empty_tray}
use Rattle.interval_audit.specs.declared.answer.AskFault.{AskFault}
use Rattle.interval_audit.specs.declared.answer.AskFault.TheVariants as ask
use Rattle.office_io.specs.Files.{Files}
use Rattle.office_io.specs.Shelves.{ShelfState}
use Rattle.office_io.specs.Trays.{TrayState}
use Rattle.worlds.specs.declared.refuted.Refuted.{Refuted}
use Rattle.job_run.specs.PutReleases.{HasReleased}
use Rattle.job_run.specs.ReleaseRuns.{IsReleaseRunOf}
use Rattle.job_run.specs.declared.put.Release.{Release}
use Rattle.job_run.specs.declared.report.DemoSummary.{DemoSummary}
use Rattle.job_run.specs.declared.report.Report.{Report}
use Rattle.job_run.specs.declared.report.Report.TheVariants as report
use Rattle.job_run.specs.declared.report.Stuck.{Stuck}
use Rattle.job_run.specs.declared.report.Stuck.TheVariants as stuck

-- ---- what a demonstration says

-- a release, with its numbers and its certificate
abbrev pub with_release : Release → DemoSummary
with_release release =
    record { status = 0; summary = Some release.summary; certificate = Some release.certificate; stopped = None }

-- nothing but a status
abbrev pub with_status : ℕ → DemoSummary
with_status status = record { status = status; summary = None; certificate = None; stopped = None }

-- a question that stopped short, with the repairs and the shown cells until then
abbrev pub with_question : AskFault → List Refuted → List ℕ → DemoSummary
with_question fault repairs shown =
    record {
      status = 4;
      summary = None;
      certificate = None;
      stopped = Some (record { fault = fault; repairs = repairs; shown = shown });
    }

-- it says that this stopped short; the job of a demonstration hides, so that no search for a rounding does
abbrev pub SaysStuck : Stuck → List Refuted → List ℕ → DemoSummary → Type 0
SaysStuck (stuck.Work walk) repairs shown demo = demo ≡ with_question (ask.Work walk) repairs shown
SaysStuck (stuck.Wide walk place) repairs shown demo = demo ≡ with_question (ask.Wide walk place) repairs shown
SaysStuck (stuck.Size question hidden) repairs shown demo = demo
    ≡ with_question (ask.Size question hidden) repairs shown
SaysStuck (stuck.Nodes nodes) repairs shown demo = ⊥

-- It says what a run over these files answered, whose tray then was this: the numbers and the certificate of the
-- release that it put, or the status of its answer, and what stopped short. Nothing fails in memory, so that no other
-- answer comes.
abbrev pub SaysAnswer : Files → Report → TrayState → DemoSummary → Type 0
SaysAnswer files (report.Released summary) tray demo = (release : Release)
    × HasReleased files job_name release empty_tray tray × (summary ≡ release.summary) × (demo ≡ with_release release)
SaysAnswer files (report.Refused reason) tray demo = demo ≡ with_status 2
SaysAnswer files (report.Cannot cell side multipliers) tray demo = demo ≡ with_status 3
SaysAnswer files report.NoRounding tray demo = demo ≡ with_status 3
SaysAnswer files (report.Undecided why repairs shown against) tray demo = SaysStuck why repairs shown demo
SaysAnswer files other tray demo = ⊥

-- A demonstration of a survey of so many records, drawn from a seed: it says what a run of its job over a shelf and a
-- tray in memory answered, which hold its files and nothing.
pub record IsDemoOf (seed records : ℕ) (demo : DemoSummary) : Type 0 where
  pub answer : Report
  pub after : ShelfState
  pub tray : TrayState
  pub run : IsReleaseRunOf job_name answer (shelf_with (demo_files seed records)) after empty_tray tray
  pub says : SaysAnswer (demo_files seed records) answer tray demo

-- the report is a demonstration, or there is no memory
abbrev pub IsDemoReport : ℕ → ℕ → Report → Type 0
IsDemoReport seed records (report.Demo demo) = IsDemoOf seed records demo
IsDemoReport seed records report.Memory = Unit {0}
IsDemoReport seed records other = ⊥

-- ---- a run

-- A run for a demonstration: neither the shelf nor the tray that was handed in is touched.
pub record IsDemoRunOf (seed records : ℕ) (answer : Report) (old new : ShelfState)
    (before after : TrayState) : Type 0 where
  pub demo : IsDemoReport seed records answer
  pub not_read : new ≡ old
  pub untouched : after ≡ before
