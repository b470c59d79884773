-- A run for a release, from how it went on.
use Rattle.std.proofs.Common.{◌≡◌, ◌≢◌, ℕ, List, Result, Ok, Err, IsErrOf, IsOkAnd, refl, subst, sym}
use Rattle.sdc_base.specs.Answers.{Fails}
use Rattle.sdc_base.specs.Counts.{HasRisen}
use Rattle.sdc_base.specs.WhereTold.{WhereTold}
use Rattle.office_io.specs.Shelves.{ShelfState}
use Rattle.office_io.specs.Trays.{TrayState}
use Rattle.job_inputs.specs.Looks.{InputsComeTo}
use Rattle.job_inputs.specs.ReadFiles.{limit}
use Rattle.job_inputs.specs.Reading.{stopped_for, HasCause, ReachedFile, HasOnlyLooked}
use Rattle.job_inputs.specs.ClassifiedJobs.{IsSettledOf, SettledInputs, settled_of}
use Rattle.job_inputs.specs.declared.faults.Fault.{Fault}
use Rattle.job_inputs.specs.declared.file_ref.FileRef.{FileRef}
use Rattle.job_inputs.specs.declared.purpose.Purpose.TheVariants as purpose
use Rattle.job_inputs.specs.declared.settled.ClassifiedJob.{ClassifiedJob}
use Rattle.job_inputs.specs.declared.stop.InputStop.{InputStop}
use Rattle.job_run.specs.CommandRuns.{AgreesWith, IsAnswer, IsRunOf}
use Rattle.job_run.specs.Endings.{ComesToRelease, IsReleaseOf}
use Rattle.job_run.specs.PutReleases.{HasReleased, IsSomeRelease, PutsReleaseWhere, Releases}
use Rattle.job_run.specs.Puts.{AllWhole, OneInPart, SomeWhole}
use Rattle.job_run.specs.ReleaseRuns.{IsReleaseEnd, IsReleaseRunOf, LeavesRelease, StopsRelease}
use Rattle.job_run.specs.Reporting.{inputs_report, puts_report}
use Rattle.job_run.specs.declared.put.Release.{Release}
use Rattle.plain_text.specs.declared.stop.Stop.{Stop}
use Rattle.plain_text.specs.declared.stop.Stop.TheVariants as puts
use Rattle.job_run.specs.declared.report.Report.{Report}
use Rattle.job_run.specs.declared.report.Report.TheVariants as report
use Rattle.job_run.specs.declared.report.Summary.{Summary}
use Rattle.job_run.proofs.CommandRuns.{inputs-run as inputs-command-run, run-of}
use Rattle.job_run.proofs.Outcomes.{read-comes, no-fault, ok-and, ok-so, inputs-put-none, inputs-stop, end-agrees, end-cause, end-comes, end-puts-none, end-stops, puts-agree, puts-cause, puts-come, puts-put, puts-stop}
use Rattle.job_run.proofs.Settling.{releases-by}

-- ---- a run that stopped

-- what stops a run for a release is one of its answers
stops-answer : (e : Report) → StopsRelease e → IsAnswer IsReleaseEnd e
stops-answer (report.Released s) stops = tt
stops-answer other stops = stops

-- and no release
no-release : (e : Report) (s : Summary) → StopsRelease e → e ≢ report.Released s
no-release e s stops is = subst StopsRelease is stops

-- what the files of a job of this name mean, and which of them reading comes to
abbrev IsRunFor : List ℕ → Report → ShelfState → ShelfState → TrayState → TrayState → Type 0
IsRunFor name e old new before after = IsRunOf (λ fs. settled_of purpose.Release fs name) (λ fs. InputsComeTo purpose.Release fs name) IsReleaseEnd LeavesRelease e old new before after

stopped-run : (name : List ℕ) (e : Report) (old new : ShelfState) (before after : TrayState) → StopsRelease e → IsRunFor name e old new before after → PutsReleaseWhere IsSomeRelease e before after → HasOnlyLooked limit old new
    → IsReleaseRunOf name e old new before after
stopped-run name e old new before after stops run once shelf = record { run = run; released = λ fs held s is. absurd (no-release e s stops is); put_once = once; shelf = shelf }

-- the reading of its inputs was stopped
pub inputs-run : {X : Type 0} (name : List ℕ) (e : InputStop) (old new : ShelfState) (tray : TrayState) → WhereTold old.files (λ fs. Fails (stopped_for e) (settled_of purpose.Release fs name))
    → WhereTold old.files (λ fs. ReachedFile {X = X} (InputsComeTo purpose.Release fs name) (Err e) fs new) → HasOnlyLooked limit old new → HasCause {X = X} (Err e) old new
    → IsReleaseRunOf name (inputs_report e) old new tray tray
inputs-run name e old new tray told come shelf cause =
    stopped-run name (inputs_report e) old new tray tray (inputs-stop e)
    (inputs-command-run (λ fs. settled_of purpose.Release fs name) (λ fs. InputsComeTo purpose.Release fs name) IsReleaseEnd LeavesRelease e old new tray told (λ outcome. inputs-put-none _ e tray) cause come)
    (inputs-put-none IsSomeRelease e tray) shelf

-- its settled inputs came to no release
pub end-run : (name : List ℕ) (job : ClassifiedJob) (e : Report) (some : SettledInputs) (old new : ShelfState) (tray : TrayState) → ((settled : SettledInputs) → IsSettledOf settled job → ComesToRelease settled (Err e)) → IsSettledOf some job
    → WhereTold old.files (λ fs. IsOkAnd (settled_of purpose.Release fs name) (λ settled. IsSettledOf settled job)) → HasOnlyLooked limit old new → IsReleaseRunOf name e old new tray tray
end-run name job e some old new tray comes is told shelf =
    let end = comes some is in
    stopped-run name e old new tray tray (end-stops some e end)
    (run-of (λ fs. settled_of purpose.Release fs name) (λ fs. InputsComeTo purpose.Release fs name) IsReleaseEnd LeavesRelease e old new tray tray (stops-answer e (end-stops some e end))
    (λ fs held. let read = ok-and (λ settled. IsSettledOf settled job) (settled_of purpose.Release fs name) (told fs held) in
    subst (λ (outcome : Result SettledInputs Fault). AgreesWith IsReleaseEnd e outcome) (sym read.1) (end-agrees read.0 e (comes read.0 read.2)))
    (λ fs held. end-puts-none some _ e tray end) (end-cause some e old new tray end) (λ fs held. end-comes some e (InputsComeTo purpose.Release fs name) fs new end))
    (end-puts-none some IsSomeRelease e tray end) shelf

-- its release was put in part, or not at all
pub puts-run : (name : List ℕ) (job : ClassifiedJob) (release : Release) (e : Stop FileRef) (old new : ShelfState) (before after : TrayState) → ((settled : SettledInputs) → IsSettledOf settled job → ComesToRelease settled (Ok release)) → IsSomeRelease release
    → WhereTold old.files (λ fs. IsOkAnd (settled_of purpose.Release fs name) (λ settled. IsSettledOf settled job)) → HasOnlyLooked limit old new
    → ((f : FileRef) → IsErrOf {T = Unit {0}} (Err e) (puts.Fault f) → OneInPart release.puts f before after) → (IsErrOf {T = Unit {0}} (Err e) puts.Memory → SomeWhole release.puts before after)
    → ((f : FileRef) → IsErrOf {T = Unit {0}} (Err e) (puts.Fault f) → HasRisen before.faults after.faults) → IsReleaseRunOf name (puts_report e) old new before after
puts-run name job release e old new before after comes some told shelf part whole cause =
    stopped-run name (puts_report e) old new before after (puts-stop e)
    (run-of (λ fs. settled_of purpose.Release fs name) (λ fs. InputsComeTo purpose.Release fs name) IsReleaseEnd LeavesRelease (puts_report e) old new before after (stops-answer (puts_report e) (puts-stop e))
    (λ fs held. let read = ok-and (λ settled. IsSettledOf settled job) (settled_of purpose.Release fs name) (told fs held) in puts-agree e (settled_of purpose.Release fs name) read.0 read.1)
    (λ fs held. puts-put (λ one. IsOkAnd (settled_of purpose.Release fs name) (λ settled. IsReleaseOf settled one)) e release before after (ok-so _ _ (settled_of purpose.Release fs name) comes (told fs held)) part whole)
    (puts-cause e old new before after cause) (λ fs held. puts-come e (InputsComeTo purpose.Release fs name) fs new))
    (puts-put IsSomeRelease e release before after some part whole) shelf

-- ---- a run that released

by-numbers : (P : Summary → Type 0) (one other : Summary) → report.Released one ≡ report.Released other → P one → P other
by-numbers P one other is h = let same : one ≡ other = cc in subst P same h

pub released-run : (name : List ℕ) (job : ClassifiedJob) (release : Release) (old new : ShelfState) (before after : TrayState) → IsSomeRelease release → AllWhole release.puts before after
    → WhereTold old.files (λ fs. IsOkAnd (settled_of purpose.Release fs name) (λ settled. IsSettledOf settled job)) → HasOnlyLooked limit old new → WhereTold old.files (λ fs. HasReleased fs name release before after)
    → IsReleaseRunOf name (report.Released release.summary) old new before after
released-run name job release old new before after some whole told shelf released = record {
  run =
      run-of (λ fs. settled_of purpose.Release fs name) (λ fs. InputsComeTo purpose.Release fs name) IsReleaseEnd LeavesRelease (report.Released release.summary) old new before after tt
      (λ fs held. ok-so _ _ (settled_of purpose.Release fs name) (λ settled is. tt) (told fs held))
      (λ fs held. (release, rw (released fs held).read (released fs held).is_release, refl, whole))
      (no-fault _ old new before after refl (λ f is. absurd cc)) (λ fs held. read-comes (InputsComeTo purpose.Release fs name) fs new);
  released = λ fs held s is. by-numbers (λ numbers. Releases fs name numbers before after) release.summary s is (releases-by fs name release before after (released fs held));
  put_once = (release, some, refl, whole);
  shelf = shelf;
}
