-- A run for an audit, from how it went on.
use Rattle.std.proofs.Common.{◌≡◌, ◌≢◌, inl, inr, ℕ, List, Result, Ok, Err, IsOkAnd, refl, sym, subst}
use Rattle.sdc_base.specs.WhereTold.{WhereTold}
use Rattle.office_io.specs.Shelves.{ShelfState}
use Rattle.office_io.specs.Trays.{TrayState, HasPut, HasPutInPart}
use Rattle.job_inputs.specs.Reading.{HasCause, ReachedFile}
use Rattle.job_inputs.specs.ClassifiedJobs.{HasOnlyLookedOn}
use Rattle.job_inputs.specs.declared.faults.Fault.{Fault}
use Rattle.job_inputs.specs.declared.file_ref.FileRef.TheVariants as file
use Rattle.job_inputs.specs.declared.stop.InputStop.{InputStop}
use Rattle.job_inputs.specs.declared.stop.InputStop.TheVariants as input
use Rattle.published_tables.specs.TableAudits.{audit_of_tables}
use Rattle.published_tables.specs.TableFiles.{IsTablesAnswer, IsFileOf, IsUndecidedFor}
use Rattle.job_inputs.specs.declared.purpose.Purpose.TheVariants.{Audit}
use Rattle.published_tables.specs.TablesOnShelf.{ShelvedTables, shelved_for, ComesFor}
use Rattle.published_tables.specs.TableStops.{reading_of as finding_of}
use Rattle.published_tables.specs.declared.audit_file.AuditFile.{AuditFile}
use Rattle.published_tables.specs.declared.table_stop.TableStop.{TableStop}
use Rattle.published_tables.specs.declared.table_stop.TableStop.TheVariants as stop
use Rattle.job_run.specs.AuditRuns.{IsAuditEnd, IsAuditPut, IsAuditPart, AuditLeaves, IsAuditRunOf}
use Rattle.job_run.specs.CommandRuns.{AgreesWith, IsAnswer, IsRunOf}
use Rattle.job_run.specs.ReleaseRuns.{StopsRelease}
use Rattle.job_run.specs.Reporting.{inputs_report, question_report}
use Rattle.job_run.specs.Reports.{FaultsHaveCauses, LeavesAll, reading_of}
use Rattle.job_run.specs.declared.report.Report.{Report}
use Rattle.job_run.specs.declared.report.Report.TheVariants as report
use Rattle.job_run.proofs.CommandRuns.{inputs-run, question-run, run-of}
use Rattle.job_run.proofs.Outcomes.{memory-comes, read-comes, failed-cause, inputs-cause, inputs-leave-all, inputs-stop, no-fault, no-memory, ok-so, question-cause, question-leaves-all, question-stops}

-- the report of an audit that wasn't found
abbrev pub stop_report : TableStop → Report
stop_report (stop.Inputs why) = inputs_report why
stop_report (stop.NotAccepted why) = report.NotAccepted why
stop_report (stop.Undecided why) = question_report why

-- ---- no audit was found

pub stop-leaves-all : (e : TableStop) (tray : TrayState) → LeavesAll (stop_report e) tray tray
stop-leaves-all (stop.Inputs why) tray = inputs-leave-all why tray
stop-leaves-all (stop.NotAccepted why) tray = refl
stop-leaves-all (stop.Undecided why) tray = question-leaves-all why tray

pub stop-cause : (e : TableStop) (old new : ShelfState) (tray : TrayState) → HasCause (finding_of {File = AuditFile} (Err e)) old new → FaultsHaveCauses (stop_report e) old new tray tray
stop-cause (stop.Inputs why) old new tray cause = inputs-cause why old new tray cause
stop-cause (stop.NotAccepted why) old new tray cause = no-fault _ old new tray tray refl (λ f is. absurd cc)
stop-cause (stop.Undecided why) old new tray cause = question-cause why old new tray

stop-puts-none : (e : TableStop) (n m : ℕ) → stop_report e ≢ report.Audited n m
stop-puts-none (stop.Inputs why) n m is = subst StopsRelease is (inputs-stop why)
stop-puts-none (stop.NotAccepted why) n m is = absurd cc
stop-puts-none (stop.Undecided why) n m is = subst StopsRelease is (question-stops why)

-- what the files of such a job mean, and which of them reading comes to
abbrev IsRunFor : List ℕ → List ℕ → Report → ShelfState → ShelfState → TrayState → TrayState → Type 0
IsRunFor name out answer old new before after = IsRunOf (λ fs. shelved_for Audit fs name out) (λ fs. ComesFor Audit fs name out) IsAuditEnd (AuditLeaves out) answer old new before after

run-for : (name out : List ℕ) (answer : Report) (old new : ShelfState) (before after : TrayState) → IsAnswer IsAuditEnd answer → WhereTold old.files (λ fs. AgreesWith IsAuditEnd answer (shelved_for Audit fs name out))
    → WhereTold old.files (λ fs. AuditLeaves out answer (shelved_for Audit fs name out) before after) → FaultsHaveCauses answer old new before after → WhereTold old.files (λ fs. ReachedFile (ComesFor Audit fs name out) (reading_of answer) fs new)
    → IsRunFor name out answer old new before after
run-for name out answer old new before after answers told left cause come = run-of (λ fs. shelved_for Audit fs name out) (λ fs. ComesFor Audit fs name out) IsAuditEnd (AuditLeaves out) answer old new before after answers told left cause come

inputs-leave : (e : InputStop) (outcome : Result ShelvedTables Fault) (out : List ℕ) (tray : TrayState) → AuditLeaves out (inputs_report e) outcome tray tray
inputs-leave (input.Refused f) outcome out tray = refl
inputs-leave (input.ReadFault f) outcome out tray = refl
inputs-leave input.Memory outcome out tray = refl

stop-run : (name out : List ℕ) (e : TableStop) (old new : ShelfState) (tray : TrayState) → WhereTold old.files (λ fs. IsTablesAnswer audit_of_tables (shelved_for Audit fs name out) (Err e))
    → WhereTold old.files (λ fs. ReachedFile (ComesFor Audit fs name out) (finding_of {File = AuditFile} (Err e)) fs new) → HasCause (finding_of {File = AuditFile} (Err e)) old new → IsRunFor name out (stop_report e) old new tray tray
stop-run name out (stop.Inputs why) old new tray told come cause =
    inputs-run (λ fs. shelved_for Audit fs name out) (λ fs. ComesFor Audit fs name out) IsAuditEnd (AuditLeaves out) why old new tray told (λ outcome. inputs-leave why outcome out tray) cause come
stop-run name out (stop.NotAccepted why) old new tray told come cause =
    run-for name out (report.NotAccepted why) old new tray tray tt told (λ fs held. refl) (stop-cause (stop.NotAccepted why) old new tray cause) (λ fs held. read-comes (ComesFor Audit fs name out) fs new)
stop-run name out (stop.Undecided why) old new tray told come cause =
    question-run (λ fs. shelved_for Audit fs name out) (λ fs. ComesFor Audit fs name out) IsAuditEnd (AuditLeaves out) (IsUndecidedFor audit_of_tables) why old new tray (λ holds one repairs shown against h. h) told (λ one outcome. refl) (λ outcome. refl)

-- what holds of how it went on holds of a run that finds no audit
pub stopped-run : (name out : List ℕ) (e : TableStop) (old new : ShelfState) (tray : TrayState) → WhereTold old.files (λ fs. IsTablesAnswer audit_of_tables (shelved_for Audit fs name out) (Err e))
    → WhereTold old.files (λ fs. ReachedFile (ComesFor Audit fs name out) (finding_of {File = AuditFile} (Err e)) fs new) → HasCause (finding_of {File = AuditFile} (Err e)) old new → HasOnlyLookedOn Audit name old new → IsAuditRunOf name out (stop_report e) old new tray tray
stopped-run name out e old new tray told come cause shelf = record { run = stop-run name out e old new tray told come cause; one_put = λ n m is. absurd (stop-puts-none e n m is); at_most_one_put = inl refl; shelf = shelf }

-- the same of a run that went on so, and reports it
pub stopped-run-of : (name out : List ℕ) (r : Result AuditFile TableStop) (e : TableStop) (answer : Report) (old new : ShelfState) (tray : TrayState) → r ≡ Err e → answer ≡ stop_report e → WhereTold old.files (λ fs. IsTablesAnswer audit_of_tables (shelved_for Audit fs name out) r)
    → WhereTold old.files (λ fs. ReachedFile (ComesFor Audit fs name out) (finding_of r) fs new) → HasCause (finding_of r) old new → HasOnlyLookedOn Audit name old new → IsAuditRunOf name out answer old new tray tray
stopped-run-of name out r e answer old new tray is same told come cause shelf =
    subst (λ (a : Report). IsAuditRunOf name out a old new tray tray) (sym same)
    (stopped-run name out e old new tray (λ fs held. subst (λ (o : Result AuditFile TableStop). IsTablesAnswer audit_of_tables (shelved_for Audit fs name out) o) is (told fs held))
    (λ fs held. subst (λ (o : Result AuditFile TableStop). ReachedFile (ComesFor Audit fs name out) (finding_of o) fs new) is (come fs held)) (subst (λ (o : Result AuditFile TableStop). HasCause (finding_of o) old new) is cause) shelf)

pub stopped-cause-of : (r : Result AuditFile TableStop) (e : TableStop) (answer : Report) (old new : ShelfState) (tray : TrayState) → r ≡ Err e → answer ≡ stop_report e → HasCause (finding_of r) old new → FaultsHaveCauses answer old new tray tray
stopped-cause-of r e answer old new tray is same cause =
    subst (λ (a : Report). FaultsHaveCauses a old new tray tray) (sym same) (stop-cause e old new tray (subst (λ (o : Result AuditFile TableStop). HasCause (finding_of o) old new) is cause))

-- ---- an audit was found

put-leaves : (outcome : Result ShelvedTables Fault) (audit : AuditFile) (out : List ℕ) (before after : TrayState) → IsOkAnd outcome (λ one. IsFileOf audit_of_tables one audit) → HasPut out audit.bytes before after
    → IsOkAnd outcome (λ shelved. IsAuditPut shelved out audit.primary audit.exposed before after)
put-leaves (Ok shelved) audit out before after h whole = record { audit = audit; is_file = h; primary_cells = refl; exposed_cells = refl; put = whole }
put-leaves (Err f) audit out before after h whole = absurd h

part-leaves : (outcome : Result ShelvedTables Fault) (audit : AuditFile) (out : List ℕ) (before after : TrayState) → IsOkAnd outcome (λ one. IsFileOf audit_of_tables one audit) → HasPutInPart out audit.bytes before after
    → IsOkAnd outcome (λ shelved. IsAuditPart shelved out before after)
part-leaves (Ok shelved) audit out before after h part = record { audit = audit; is_file = h; put = part }
part-leaves (Err f) audit out before after h part = absurd h

-- the file of the audit was put
pub put-run : (name out : List ℕ) (audit : AuditFile) (old new : ShelfState) (before after : TrayState) → WhereTold old.files (λ fs. IsTablesAnswer audit_of_tables (shelved_for Audit fs name out) (Ok audit)) → HasPut out audit.bytes before after → HasOnlyLookedOn Audit name old new
    → IsAuditRunOf name out (report.Audited audit.primary audit.exposed) old new before after
put-run name out audit old new before after told whole shelf = record {
  run =
      run-for name out (report.Audited audit.primary audit.exposed) old new before after tt (λ fs held. ok-so _ _ (shelved_for Audit fs name out) (λ shelved is. tt) (told fs held)) (λ fs held. put-leaves (shelved_for Audit fs name out) audit out before after (told fs held) whole)
      (no-fault _ old new before after refl (λ f is. absurd cc)) (λ fs held. read-comes (ComesFor Audit fs name out) fs new);
  one_put = λ n m is. (audit.bytes, whole);
  at_most_one_put = inr (audit.bytes, inl whole);
  shelf = shelf;
}

-- it was put in part
pub part-run : (name out : List ℕ) (audit : AuditFile) (old new : ShelfState) (before after : TrayState) → WhereTold old.files (λ fs. IsTablesAnswer audit_of_tables (shelved_for Audit fs name out) (Ok audit)) → HasPutInPart out audit.bytes before after → HasOnlyLookedOn Audit name old new
    → IsAuditRunOf name out (report.WriteFault file.Out) old new before after
part-run name out audit old new before after told part shelf = record {
  run =
      run-for name out (report.WriteFault file.Out) old new before after tt (λ fs held. ok-so _ _ (shelved_for Audit fs name out) (λ shelved is. refl) (told fs held)) (λ fs held. part-leaves (shelved_for Audit fs name out) audit out before after (told fs held) part)
      (failed-cause file.Out old new before after part.failed) (λ fs held. read-comes (ComesFor Audit fs name out) fs new);
  one_put = λ n m is. absurd cc;
  at_most_one_put = inr (audit.bytes, inr part);
  shelf = shelf;
}

-- there was no memory for the put
pub no-memory-run : (name out : List ℕ) (old new : ShelfState) (tray : TrayState) → HasOnlyLookedOn Audit name old new → IsAuditRunOf name out report.Memory old new tray tray
no-memory-run name out old new tray shelf = record {
  run = run-for name out report.Memory old new tray tray tt (λ fs held. tt) (λ fs held. refl) (no-memory old new tray tray) (λ fs held. memory-comes (ComesFor Audit fs name out) fs new);
  one_put = λ n m is. absurd cc;
  at_most_one_put = inl refl;
  shelf = shelf;
}
