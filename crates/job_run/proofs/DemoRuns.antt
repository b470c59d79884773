-- A demonstration, from how its run went on.
use Rattle.std.proofs.Common.{◌≡◌, ℕ, List, Result, Ok, Err, Option, None, Some, IfErr, IfOk, IsOkAnd, refl, sym, subst, arith}
use Rattle.sdc_base.specs.Counts.{HasRisen}
use Rattle.sdc_base.specs.WhereTold.{WhereTold}
use Rattle.sdc_base.specs.declared.memory.Memory.{Memory}
use Rattle.attackers.specs.declared.extra.Against.{Against}
use Rattle.demo_files.specs.DemoFiles.{demo_files, job_name}
use Rattle.demo_files.specs.SteadyFiles.{shelf_with, empty_tray}
use Rattle.office_io.specs.Shelves.{ShelfState}
use Rattle.office_io.specs.Trays.{TrayState}
use Rattle.worlds.specs.declared.refuted.Refuted.{Refuted}
use Rattle.job_inputs.specs.ClassifiedJobs.{settled_of}
use Rattle.job_inputs.specs.declared.purpose.Purpose.TheVariants as purpose
use Rattle.job_run.specs.Demos.{IsDemoOf, SaysAnswer, SaysStuck}
use Rattle.job_run.specs.Endings.{IsUndecided}
use Rattle.job_run.specs.GuardedReleases.{HasNoGuard}
use Rattle.job_run.specs.PutReleases.{HasReleased}
use Rattle.job_run.specs.CommandRuns.{AgreesWith}
use Rattle.job_run.specs.ReleaseRuns.{IsReleaseEnd, IsReleaseRunOf, StopsRelease, report_of}
use Rattle.job_run.specs.Reports.{FaultsHaveCauses}
use Rattle.job_run.specs.Summaries.{demo_of, stopped_demo, stuck_demo}
use Rattle.job_run.specs.declared.put.Release.{Release}
use Rattle.job_run.specs.declared.report.DemoSummary.{DemoSummary}
use Rattle.job_run.specs.declared.report.Report.{Report}
use Rattle.job_run.specs.declared.report.Report.TheVariants as report
use Rattle.job_run.specs.declared.report.Stuck.{Stuck}
use Rattle.job_run.specs.declared.report.Stuck.TheVariants as stuck
use Rattle.job_run.proofs.DemoJobs.{demo-hides, demo-names-none}
use Rattle.job_run.proofs.Outcomes.{ok-and, read-counted}

ok-is : {A F : Type 0} {a b : A} → ◌≡◌ {A = Result A F} (Ok a) (Ok b) → a ≡ b
ok-is {A} {F} {a} {b} is = let same : a ≡ b = cc in same

never-rose : (old new : ℕ) → old ≡ 0 → new ≡ 0 → HasRisen old new → ⊥
never-rose old new is_old is_new rose = absurd (omega (arith, is_old, is_new, rose))

none-some : {A : Type 0} {a : A} (o : Option A) → o ≡ None → o ≡ Some a → ⊥
none-some o is_none is_some = absurd cc

-- what stopped short of the job of a demonstration is a question
says-stuck : (seed records : ℕ) (why : Stuck) (repairs : List Refuted) (shown : List ℕ) (against : Option Against) → IsOkAnd (settled_of purpose.Release (demo_files seed records) job_name) (λ settled. IsUndecided settled why repairs shown against)
    → SaysStuck why repairs shown (stuck_demo why repairs shown)
says-stuck seed records (stuck.Work walk) repairs shown against meets = refl
says-stuck seed records (stuck.Wide walk place) repairs shown against meets = refl
says-stuck seed records (stuck.Size question hidden) repairs shown against meets = refl
says-stuck seed records (stuck.Nodes nodes) repairs shown against meets =
    let read = ok-and (λ settled. IsUndecided settled (stuck.Nodes nodes) repairs shown against) (settled_of purpose.Release (demo_files seed records) job_name) meets in
    none-some _ (demo-hides seed records read.0 read.1) read.2.0.rounds

-- it says what stopped its run
says-stop : (seed records : ℕ) (e : Report) (after : ShelfState) (tray : TrayState) (demo : DemoSummary)
    → after.faults ≡ 0 → tray.faults ≡ 0 → StopsRelease e → AgreesWith IsReleaseEnd e (settled_of purpose.Release (demo_files seed records) job_name)
    → FaultsHaveCauses e (shelf_with (demo_files seed records)) after empty_tray tray
    → stopped_demo e ≡ Ok demo → SaysAnswer (demo_files seed records) e tray demo
says-stop seed records (report.Refused reason) after tray demo calm still stops meets causes is = sym (ok-is is)
says-stop seed records (report.Cannot cell side multipliers) after tray demo calm still stops meets causes is = sym (ok-is is)
says-stop seed records (report.CannotAgainst row cell side multipliers) after tray demo calm still stops meets causes is =
    let read = ok-and (λ settled. HasNoGuard settled row cell side multipliers) (settled_of purpose.Release (demo_files seed records) job_name) meets in
    absurd (none-some _ (demo-names-none seed records read.0 read.1) read.2.guards.named)
says-stop seed records report.NoRounding after tray demo calm still stops meets causes is = sym (ok-is is)
says-stop seed records (report.Undecided why repairs shown against) after tray demo calm still stops meets causes is = rw (sym (ok-is is)) (says-stuck seed records why repairs shown against meets)
says-stop seed records (report.ReadFault file) after tray demo calm still stops meets causes is = absurd (never-rose _ _ refl calm (read-counted (report.ReadFault file) _ after empty_tray tray file causes refl))
says-stop seed records (report.WriteFault file) after tray demo calm still stops meets causes is = absurd (never-rose _ _ refl still (causes.write_fault file refl))
says-stop seed records report.Memory after tray demo calm still stops meets causes is = absurd cc
says-stop seed records other after tray demo calm still stops meets causes is = absurd stops

-- all that holds of how a run for a release went on
pub record WentOn (name : List ℕ) (outcome : Result Release Report) (old new : ShelfState) (before after : TrayState) : Type 0 where
  pub run : IsReleaseRunOf name (report_of outcome) old new before after
  pub causes : FaultsHaveCauses (report_of outcome) old new before after
  pub stops : IfErr outcome StopsRelease
  pub released : WhereTold old.files (λ fs. IfOk outcome (λ release. HasReleased fs name release before after))

-- it says what its run answered
says : (seed records : ℕ) (outcome : Result Release Report) (after : ShelfState) (tray : TrayState) (demo : DemoSummary)
    → after.faults ≡ 0 → tray.faults ≡ 0 → WentOn job_name outcome (shelf_with (demo_files seed records)) after empty_tray tray
    → demo_of outcome ≡ Ok demo → SaysAnswer (demo_files seed records) (report_of outcome) tray demo
says seed records (Ok release) after tray demo calm still went is = (release, went.released (demo_files seed records) refl, refl, sym (ok-is is))
says seed records (Err e) after tray demo calm still went is = says-stop seed records e after tray demo calm still went.stops (went.run.run.told (demo_files seed records) refl) went.causes is

from-memory : (seed records : ℕ) (outcome : Result Release Report) (after : ShelfState) (tray : TrayState) (result : Result DemoSummary Memory) → after.faults ≡ 0 → tray.faults ≡ 0
    → WentOn job_name outcome (shelf_with (demo_files seed records)) after empty_tray tray → result ≡ demo_of outcome → IfOk result (λ demo. IsDemoOf seed records demo)
from-memory seed records outcome after tray (Ok demo) calm still went is = record {
  answer = report_of outcome;
  after = after;
  tray = tray;
  run = went.run;
  says = says seed records outcome after tray demo calm still went (sym is);
}
from-memory seed records outcome after tray (Err none) calm still went is = tt

-- what holds of how its run went on holds of a demonstration
pub demo-run : (seed records : ℕ) (name : List ℕ) (outcome : Result Release Report) (old after : ShelfState) (before tray : TrayState) (result : Result DemoSummary Memory) → name ≡ job_name → old ≡ shelf_with (demo_files seed records) → before ≡ empty_tray
    → after.faults ≡ 0 → tray.faults ≡ 0 → WentOn name outcome old after before tray → result ≡ demo_of outcome → IfOk result (λ demo. IsDemoOf seed records demo)
demo-run seed records name outcome old after before tray result is_name is_old is_before calm still went is =
    from-memory seed records outcome after tray result calm still
    (subst (λ (n : List ℕ). WentOn n outcome (shelf_with (demo_files seed records)) after empty_tray tray) is_name
    (subst (λ (o : ShelfState). WentOn name outcome o after empty_tray tray) is_old (subst (λ (t : TrayState). WentOn name outcome old after t tray) is_before went))) is
