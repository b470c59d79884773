-- A run of a command, from how it went on.
use Rattle.std.proofs.Common.{◌≡◌, ◌≢◌, ℕ, List, [], Option, None, Result, Ok, Err, IsOkAnd, refl, ap, sym}
use Rattle.sdc_base.specs.Answers.{Fails}
use Rattle.sdc_base.specs.Counts.{HasRisen}
use Rattle.sdc_base.specs.WhereTold.{WhereTold}
use Rattle.attackers.specs.declared.extra.Against.{Against}
use Rattle.interval_audit.specs.declared.answer.AskFault.{AskFault}
use Rattle.interval_audit.specs.declared.answer.AskFault.TheVariants as ask
use Rattle.office_io.specs.Files.{Files}
use Rattle.office_io.specs.Shelves.{ShelfState}
use Rattle.office_io.specs.Trays.{TrayState}
use Rattle.worlds.specs.declared.refuted.Refuted.{Refuted}
use Rattle.job_inputs.specs.Reading.{stopped_for, HasCause, ReachedFile}
use Rattle.job_inputs.specs.declared.faults.Fault.{Fault}
use Rattle.job_inputs.specs.declared.file_ref.FileRef.{FileRef}
use Rattle.job_inputs.specs.declared.stop.InputStop.{InputStop}
use Rattle.job_inputs.specs.declared.stop.InputStop.TheVariants as input
use Rattle.job_run.specs.CommandRuns.{AgreesWith, Ends, IsAnswer, IsRunOf, Settles}
use Rattle.job_run.specs.Reporting.{inputs_report, question_report, IsQuestionReport}
use Rattle.job_run.specs.Reports.{FaultsHaveCauses, reading_of}
use Rattle.job_run.specs.declared.report.Report.{Report}
use Rattle.job_run.specs.declared.report.Report.TheVariants as report
use Rattle.job_run.specs.declared.report.Stuck.{Stuck}
use Rattle.job_run.specs.declared.report.Stuck.TheVariants as stuck
use Rattle.job_run.proofs.Outcomes.{inputs-cause, inputs-come, question-cause, question-comes, read-counted}

-- what agrees with the told files settles what they come to, where the shelf didn't fail and a fault of the tray was
-- counted
settles : {Y : Type 0} (IsEnd : Ends Y) (answer : Report) (outcome : Result Y Fault) (before after : TrayState) → AgreesWith IsEnd answer outcome → ((f : FileRef) → answer ≢ report.ReadFault f)
    → ((f : FileRef) → answer ≡ report.WriteFault f → HasRisen before.faults after.faults) → Settles IsEnd answer outcome before after
settles IsEnd report.Memory outcome before after agrees no_read counted = tt
settles IsEnd (report.WriteFault f) outcome before after agrees no_read counted = counted f refl
settles IsEnd (report.ReadFault f) outcome before after agrees no_read counted = absurd (no_read f refl)
settles IsEnd (report.Refused f) (Ok y) before after agrees no_read counted = absurd cc
settles IsEnd (report.Refused f) (Err g) before after agrees no_read counted = let same : g ≡ f = cc in ap report.Refused (sym same)
settles IsEnd other (Ok y) before after agrees no_read counted = agrees
settles IsEnd other (Err f) before after agrees no_read counted = absurd agrees

-- an answer that agrees with the told files, and whose faults have their causes, is that of a run
pub run-of : {Y : Type 0} (meant : Files → Result Y Fault) (comes : Files → FileRef → List ℕ → Type 0) (IsEnd : Ends Y) (Leaves : Report → Result Y Fault → TrayState → TrayState → Type 0) (answer : Report) (old new : ShelfState) (before after : TrayState)
    → IsAnswer IsEnd answer → WhereTold old.files (λ fs. AgreesWith IsEnd answer (meant fs)) → WhereTold old.files (λ fs. Leaves answer (meant fs) before after) → FaultsHaveCauses answer old new before after
    → WhereTold old.files (λ fs. ReachedFile (comes fs) (reading_of answer) fs new) → IsRunOf meant comes IsEnd Leaves answer old new before after
run-of meant comes IsEnd Leaves answer old new before after answers told left causes come = record {
  answers = answers;
  told = told;
  left = left;
  complete = λ fs held no_read. settles IsEnd answer (meant fs) before after (told fs held) (λ f is. no_read (read-counted answer old new before after f causes is)) causes.write_fault;
  came_to = come;
}

-- ---- the reading of its files was stopped

inputs-answer : {Y : Type 0} (IsEnd : Ends Y) (e : InputStop) → IsAnswer IsEnd (inputs_report e)
inputs-answer IsEnd (input.Refused f) = tt
inputs-answer IsEnd (input.ReadFault f) = tt
inputs-answer IsEnd input.Memory = tt

inputs-agree : {Y : Type 0} (IsEnd : Ends Y) (e : InputStop) (outcome : Result Y Fault) → Fails (stopped_for e) outcome → AgreesWith IsEnd (inputs_report e) outcome
inputs-agree IsEnd (input.Refused f) outcome h = h
inputs-agree IsEnd (input.ReadFault f) outcome h = tt
inputs-agree IsEnd input.Memory outcome h = tt

pub inputs-run : {X Y : Type 0} (meant : Files → Result Y Fault) (comes : Files → FileRef → List ℕ → Type 0) (IsEnd : Ends Y) (Leaves : Report → Result Y Fault → TrayState → TrayState → Type 0) (e : InputStop) (old new : ShelfState) (tray : TrayState)
    → WhereTold old.files (λ fs. Fails (stopped_for e) (meant fs)) → ((outcome : Result Y Fault) → Leaves (inputs_report e) outcome tray tray) → HasCause {X = X} (Err e) old new
    → WhereTold old.files (λ fs. ReachedFile {X = X} (comes fs) (Err e) fs new) → IsRunOf meant comes IsEnd Leaves (inputs_report e) old new tray tray
inputs-run meant comes IsEnd Leaves e old new tray told left cause come =
    run-of meant comes IsEnd Leaves (inputs_report e) old new tray tray (inputs-answer IsEnd e) (λ fs held. inputs-agree IsEnd e (meant fs) (told fs held)) (λ fs held. left (meant fs)) (inputs-cause e old new tray cause)
    (λ fs held. inputs-come e (comes fs) fs new (come fs held))

-- ---- a question about its released tables stopped short

-- the command has an end for such a question
abbrev pub HasQuestions : {Y : Type 0} → Ends Y → (Y → AskFault → Type 0) → Type 1
HasQuestions {Y} IsEnd IsStuck =
    (holds : (Y → Type 0) → Type 0) (why : Stuck) (repairs : List Refuted) (shown : List ℕ) (against : Option Against)
    → holds (λ y. IsQuestionReport (IsStuck y) (report.Undecided why repairs shown against)) → IsEnd holds (report.Undecided why repairs shown against)

reported : {Y : Type 0} (IsStuck : Y → AskFault → Type 0) (y : Y) (why : AskFault) → IsStuck y why → IsQuestionReport (IsStuck y) (question_report why)
reported IsStuck y why h = record { fault = why; is_report = refl; is_stuck = h }

question-answers : {Y : Type 0} (IsEnd : Ends Y) (IsStuck : Y → AskFault → Type 0) (why : AskFault) → HasQuestions IsEnd IsStuck → IsAnswer IsEnd (question_report why)
question-answers IsEnd IsStuck (ask.Work walk) has = has (λ says. Unit {0}) (stuck.Work walk) [] [] None tt
question-answers IsEnd IsStuck (ask.Wide walk place) has = has (λ says. Unit {0}) (stuck.Wide walk place) [] [] None tt
question-answers IsEnd IsStuck (ask.Size question hidden) has = has (λ says. Unit {0}) (stuck.Size question hidden) [] [] None tt
question-answers IsEnd IsStuck ask.Memory has = tt

question-agrees : {Y : Type 0} (IsEnd : Ends Y) (IsStuck : Y → AskFault → Type 0) (why : AskFault) (outcome : Result Y Fault) → HasQuestions IsEnd IsStuck → IsOkAnd outcome (λ y. IsStuck y why) → AgreesWith IsEnd (question_report why) outcome
question-agrees IsEnd IsStuck (ask.Work walk) (Ok y) has h = has (λ says. says y) (stuck.Work walk) [] [] None (reported IsStuck y (ask.Work walk) h)
question-agrees IsEnd IsStuck (ask.Wide walk place) (Ok y) has h = has (λ says. says y) (stuck.Wide walk place) [] [] None (reported IsStuck y (ask.Wide walk place) h)
question-agrees IsEnd IsStuck (ask.Size question hidden) (Ok y) has h = has (λ says. says y) (stuck.Size question hidden) [] [] None (reported IsStuck y (ask.Size question hidden) h)
question-agrees IsEnd IsStuck ask.Memory (Ok y) has h = tt
question-agrees IsEnd IsStuck why (Err f) has h = absurd h

-- a command that leaves the tray as it was where it is undecided leaves it so
question-leaves : {Y : Type 0} (Leaves : Report → Result Y Fault → TrayState → TrayState → Type 0) (why : AskFault) (outcome : Result Y Fault) (tray : TrayState)
    → ((one : Stuck) → Leaves (report.Undecided one [] [] None) outcome tray tray) → Leaves report.Memory outcome tray tray → Leaves (question_report why) outcome tray tray
question-leaves Leaves (ask.Work walk) outcome tray undecided memory = undecided (stuck.Work walk)
question-leaves Leaves (ask.Wide walk place) outcome tray undecided memory = undecided (stuck.Wide walk place)
question-leaves Leaves (ask.Size question hidden) outcome tray undecided memory = undecided (stuck.Size question hidden)
question-leaves Leaves ask.Memory outcome tray undecided memory = memory

pub question-run : {Y : Type 0} (meant : Files → Result Y Fault) (comes : Files → FileRef → List ℕ → Type 0) (IsEnd : Ends Y) (Leaves : Report → Result Y Fault → TrayState → TrayState → Type 0) (IsStuck : Y → AskFault → Type 0) (why : AskFault)
    (old new : ShelfState) (tray : TrayState) → HasQuestions IsEnd IsStuck → WhereTold old.files (λ fs. IsOkAnd (meant fs) (λ y. IsStuck y why))
    → ((one : Stuck) (outcome : Result Y Fault) → Leaves (report.Undecided one [] [] None) outcome tray tray) → ((outcome : Result Y Fault) → Leaves report.Memory outcome tray tray)
    → IsRunOf meant comes IsEnd Leaves (question_report why) old new tray tray
question-run meant comes IsEnd Leaves IsStuck why old new tray has told undecided memory =
    run-of meant comes IsEnd Leaves (question_report why) old new tray tray (question-answers IsEnd IsStuck why has) (λ fs held. question-agrees IsEnd IsStuck why (meant fs) has (told fs held))
    (λ fs held. question-leaves Leaves why (meant fs) tray (λ one. undecided one (meant fs)) (memory (meant fs))) (question-cause why old new tray) (λ fs held. question-comes why (comes fs) fs new)
