-- A certificate that is put again, from how it went on.
use Rattle.std.proofs.Common.{◌≡◌, inl, inr, ℕ, true, false, List, Result, Ok, Err, refl, subst}
use Rattle.std.specs.Str.{bytes_eq}
use Rattle.certificate.specs.Texts.{text_of}
use Rattle.certificate.specs.declared.certificate.Certificate.{Certificate}
use Rattle.office_io.specs.Files.{Files}
use Rattle.office_io.specs.Shelves.{ShelfState}
use Rattle.office_io.specs.Trays.{TrayState}
use Rattle.job_inputs.specs.CertificateFile.{certificate_in, IsSoundCertificate}
use Rattle.job_inputs.specs.Looks.{IsFile}
use Rattle.job_inputs.specs.ReadFiles.{output_limit}
use Rattle.job_inputs.specs.Reading.{ReachedFile, IsReadFrom}
use Rattle.job_inputs.specs.declared.faults.Fault.{Fault}
use Rattle.job_inputs.specs.declared.faults.Fault.TheVariants as fault
use Rattle.job_inputs.specs.declared.file_ref.FileRef.{FileRef}
use Rattle.job_inputs.specs.declared.file_ref.FileRef.TheVariants as file
use Rattle.job_inputs.specs.declared.stop.InputStop.{InputStop}
use Rattle.job_inputs.specs.declared.stop.InputStop.TheVariants as input
use Rattle.job_inputs.proofs.Causes.{nothing-looked, read-wider}
use Rattle.job_run.specs.CommandRuns.{AgreesWith, IsAnswer}
use Rattle.job_run.specs.Migrations.{migrating_of, IsPutAgain, IsMigrationEnd, MigrationLeaves, MigrationComesTo, IsMigrationOf}
use Rattle.job_run.specs.Puts.{HasAtMostOnePut}
use Rattle.job_run.specs.ReleaseRuns.{StopsRelease}
use Rattle.job_run.specs.Reporting.{inputs_report}
use Rattle.job_run.specs.Reports.{FaultsHaveCauses, LeavesAll, reading_of}
use Rattle.job_run.specs.declared.report.Report.{Report}
use Rattle.job_run.specs.declared.report.Report.TheVariants as report
use Rattle.job_run.proofs.CommandRuns.{inputs-run, run-of}
use Rattle.job_run.proofs.Outcomes.{memory-comes, read-comes, failed-cause, inputs-stop, no-fault, no-memory}

-- ---- the two names

same-names : (files : Files) (old new : List ℕ) → bytes_eq old new ≡ true → migrating_of files old new ≡ Err fault.OutName
unfolding migrating_of
same-names files old new is = rw is refl

other-names : (files : Files) (old new : List ℕ) → bytes_eq old new ≡ false → certificate_in files old ≡ migrating_of files old new
unfolding migrating_of
other-names files old new apart = rw apart refl

-- equal names are refused before the shelf is looked at
pub names-refused : (old new : List ℕ) (state : ShelfState) → bytes_eq old new ≡ true
    → IsReadFrom {X = Certificate} (λ certificate. certificate) (λ fs. migrating_of fs old new) (λ fs. MigrationComesTo old new) IsSoundCertificate output_limit (Err (input.Refused fault.OutName)) state state
names-refused old new state is = record {
  told = λ fs told. same-names fs old new is;
  came_to = λ fs told f stops. absurd cc;
  shelf = nothing-looked output_limit state;
  cause = record { absent = λ f stops. absurd cc; too_long = λ f stops. absurd cc; read_fault = λ f stops. absurd cc; tree = λ f stops. absurd cc };
  sound = tt;
}

-- with other names the file is looked at
pub file-read : (old new : List ℕ) (result : Result Certificate InputStop) (before after : ShelfState) → bytes_eq old new ≡ false
    → IsReadFrom (λ certificate. certificate) (λ fs. certificate_in fs old) (λ fs. IsFile file.Certificate old) IsSoundCertificate output_limit result before after
    → IsReadFrom (λ certificate. certificate) (λ fs. migrating_of fs old new) (λ fs. MigrationComesTo old new) IsSoundCertificate output_limit result before after
file-read old new result before after apart read =
    read-wider (λ certificate. certificate) (λ fs. certificate_in fs old) (λ fs. migrating_of fs old new) (λ fs. IsFile file.Certificate old) (λ fs. MigrationComesTo old new) result before after
    (λ fs. other-names fs old new apart) (λ fs f held is. record { apart = apart; is_file = is }) read

-- ---- no certificate was read

inputs-leave : (e : InputStop) (outcome : Result Certificate Fault) (new : List ℕ) (tray : TrayState) → MigrationLeaves new (inputs_report e) outcome tray tray
inputs-leave (input.Refused f) outcome new tray = refl
inputs-leave (input.ReadFault f) outcome new tray = refl
inputs-leave input.Memory outcome new tray = refl

-- what stopped the reading is reported, and nothing is put
pub stopped-migration : (old new : List ℕ) (e : InputStop) (shelf shelved : ShelfState) (tray : TrayState)
    → IsReadFrom {X = Certificate} (λ certificate. certificate) (λ fs. migrating_of fs old new) (λ fs. MigrationComesTo old new) IsSoundCertificate output_limit (Err e) shelf shelved
    → IsMigrationOf old new (inputs_report e) shelf shelved tray tray
stopped-migration old new e shelf shelved tray read = record {
  run =
      inputs-run (λ fs. migrating_of fs old new) (λ fs. MigrationComesTo old new) IsMigrationEnd (MigrationLeaves new) e shelf shelved tray read.told (λ outcome. inputs-leave e outcome new tray) read.cause
      read.came_to;
  one_put = λ is. absurd (subst StopsRelease is (inputs-stop e));
  at_most_one_put = inl refl;
  looked = read.shelf;
}

-- ---- a certificate was read

-- what holds of each report of a put holds of them all
by-put : (certificate : Certificate) (new : List ℕ) (before after : TrayState) (P : Report → Type 0) → (IsPutAgain certificate new report.Migrated before after → P report.Migrated)
    → ((f : FileRef) → IsPutAgain certificate new (report.WriteFault f) before after → P (report.WriteFault f)) → (IsPutAgain certificate new report.Memory before after → P report.Memory)
    → (answer : Report) → IsPutAgain certificate new answer before after → P answer
by-put certificate new before after P migrated failed memory report.Migrated h = migrated h
by-put certificate new before after P migrated failed memory (report.WriteFault f) h = failed f h
by-put certificate new before after P migrated failed memory report.Memory h = memory h
by-put certificate new before after P migrated failed memory other h = absurd h

put-answers : (certificate : Certificate) (new : List ℕ) (answer : Report) (before after : TrayState) → IsPutAgain certificate new answer before after → IsAnswer IsMigrationEnd answer
put-answers certificate new answer before after h = by-put certificate new before after (λ (one : Report). IsAnswer IsMigrationEnd one) (λ put. tt) (λ f put. tt) (λ put. tt) answer h

put-agrees : (certificate : Certificate) (new : List ℕ) (answer : Report) (before after : TrayState) (outcome : Result Certificate Fault) → outcome ≡ Ok certificate → IsPutAgain certificate new answer before after → AgreesWith IsMigrationEnd answer outcome
put-agrees certificate new answer before after outcome is h = by-put certificate new before after (λ (one : Report). AgreesWith IsMigrationEnd one outcome) (λ put. rw is tt) (λ f put. rw is put.0) (λ put. tt) answer h

put-leaves : (certificate : Certificate) (new : List ℕ) (answer : Report) (before after : TrayState) (outcome : Result Certificate Fault) → outcome ≡ Ok certificate → IsPutAgain certificate new answer before after → MigrationLeaves new answer outcome before after
put-leaves certificate new answer before after outcome is h = by-put certificate new before after (λ (one : Report). MigrationLeaves new one outcome before after) (λ put. rw is put) (λ f put. rw is put) (λ put. put) answer h

-- whatever was put, the tray isn't one that had to stay
pub put-leaves-all : (certificate : Certificate) (new : List ℕ) (answer : Report) (before after : TrayState) → IsPutAgain certificate new answer before after → LeavesAll answer before after
put-leaves-all certificate new answer before after h = by-put certificate new before after (λ (one : Report). LeavesAll one before after) (λ put. tt) (λ f put. tt) (λ put. tt) answer h

pub put-cause : (certificate : Certificate) (new : List ℕ) (answer : Report) (shelf shelved : ShelfState) (before after : TrayState) → IsPutAgain certificate new answer before after → FaultsHaveCauses answer shelf shelved before after
put-cause certificate new answer shelf shelved before after h =
    by-put certificate new before after (λ (one : Report). FaultsHaveCauses one shelf shelved before after) (λ put. no-fault _ shelf shelved before after refl (λ f is. absurd cc))
    (λ f put. failed-cause f shelf shelved before after put.1.failed) (λ put. no-memory shelf shelved before after) answer h

put-comes : (certificate : Certificate) (new : List ℕ) (answer : Report) (before after : TrayState) (comes : FileRef → List ℕ → Type 0) (files : Files) (shelved : ShelfState) → IsPutAgain certificate new answer before after → ReachedFile comes (reading_of answer) files shelved
put-comes certificate new answer before after comes files shelved h =
    by-put certificate new before after (λ (one : Report). ReachedFile comes (reading_of one) files shelved) (λ put. read-comes comes files shelved) (λ f put. read-comes comes files shelved) (λ put. memory-comes comes files shelved) answer h

put-once : (certificate : Certificate) (new : List ℕ) (answer : Report) (before after : TrayState) → IsPutAgain certificate new answer before after → HasAtMostOnePut new before after
put-once certificate new answer before after h =
    by-put certificate new before after (λ (one : Report). HasAtMostOnePut new before after) (λ put. inr (text_of certificate, inl put.0)) (λ f put. inr (text_of certificate, inr put.1)) (λ put. inl put) answer h

-- the certificate was put again, in part, or not at all
pub put-migration : (old new : List ℕ) (certificate : Certificate) (answer : Report) (shelf shelved : ShelfState) (before after : TrayState)
    → IsReadFrom {X = Certificate} (λ certificate. certificate) (λ fs. migrating_of fs old new) (λ fs. MigrationComesTo old new) IsSoundCertificate output_limit (Ok certificate) shelf shelved
    → IsPutAgain certificate new answer before after → IsMigrationOf old new answer shelf shelved before after
put-migration old new certificate answer shelf shelved before after read h = record {
  run =
      run-of (λ fs. migrating_of fs old new) (λ fs. MigrationComesTo old new) IsMigrationEnd (MigrationLeaves new) answer shelf shelved before after (put-answers certificate new answer before after h)
      (λ fs held. put-agrees certificate new answer before after (migrating_of fs old new) (read.told fs held) h) (λ fs held. put-leaves certificate new answer before after (migrating_of fs old new) (read.told fs held) h)
      (put-cause certificate new answer shelf shelved before after h) (λ fs held. put-comes certificate new answer before after (MigrationComesTo old new) fs shelved h);
  one_put = λ is. (certificate, subst (λ (a : Report). IsPutAgain certificate new a before after) is h);
  at_most_one_put = put-once certificate new answer before after h;
  looked = read.shelf;
}
