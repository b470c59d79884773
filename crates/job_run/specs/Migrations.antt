-- What the words `migrate OLD NEW` answer, and what they leave on the tray (own).
use Rattle.std.specs.Prelude.{◌≡◌, ℕ, false, List, Result, Ok, IsOkAnd}
use Rattle.std.specs.Str.{bytes_eq}
use Rattle.sdc_base.specs.Steps.{◌>>=◌, refuse}
use Rattle.certificate.specs.Certificates.{certificate_of}
use Rattle.certificate.specs.Texts.{text_of}
use Rattle.certificate.specs.declared.certificate.Certificate.{Certificate}
use Rattle.office_io.specs.Files.{Files}
use Rattle.office_io.specs.Shelves.{ShelfState}
use Rattle.office_io.specs.Trays.{TrayState, HasPut, HasPutInPart}
use Rattle.job_inputs.specs.CertificateFile.{certificate_in}
use Rattle.job_inputs.specs.Looks.{IsFile}
use Rattle.job_inputs.specs.ReadFiles.{output_limit}
use Rattle.job_inputs.specs.Reading.{HasOnlyLooked}
use Rattle.job_inputs.specs.declared.faults.Fault.{Fault}
use Rattle.job_inputs.specs.declared.faults.Fault.TheVariants as fault
use Rattle.job_inputs.specs.declared.file_ref.FileRef.{FileRef}
use Rattle.job_inputs.specs.declared.file_ref.FileRef.TheVariants as file
use Rattle.job_run.specs.CommandRuns.{Ends, IsRunOf}
use Rattle.job_run.specs.Puts.{HasAtMostOnePut}
use Rattle.job_run.specs.declared.report.Report.{Report}
use Rattle.job_run.specs.declared.report.Report.TheVariants as report

-- the certificate that is to be put again, or the first fault: that it would be put under its own name, then those of
-- its file
unfoldable pub migrating_of : Files → List ℕ → List ℕ → Result Certificate Fault
migrating_of files old new = do
  apart ← refuse fault.OutName (bytes_eq old new)
  certificate_in files old

-- The certificate was put under this name in the second version of its text, which is read as the same certificate; or
-- the first bytes of that text were; or nothing was.
abbrev pub IsPutAgain : Certificate → List ℕ → Report → TrayState → TrayState → Type 0
IsPutAgain certificate new report.Migrated before after = HasPut new (text_of certificate) before after
    × (certificate_of (text_of certificate) ≡ Ok certificate)
IsPutAgain certificate new (report.WriteFault f) before after =
    (f ≡ file.Out) × HasPutInPart new (text_of certificate) before after
IsPutAgain certificate new report.Memory before after = after ≡ before
IsPutAgain certificate new other before after = ⊥

-- what these words end with: the certificate was put again, or it can't be put
abbrev pub IsMigrationEnd : Ends Certificate
IsMigrationEnd Holds report.Migrated = Holds (λ certificate. Unit {0})
IsMigrationEnd Holds (report.WriteFault f) = Holds (λ certificate. f ≡ file.Out)
IsMigrationEnd Holds other = ⊥

-- What the tray holds afterwards: the certificate under its new name, or after a write fault the first bytes of its
-- text; else all is as it was.
abbrev pub MigrationLeaves : List ℕ → Report → Result Certificate Fault → TrayState → TrayState → Type 0
MigrationLeaves new report.Migrated outcome before after = IsOkAnd outcome
    (λ certificate. IsPutAgain certificate new report.Migrated before after)
MigrationLeaves new (report.WriteFault f) outcome before after = IsOkAnd outcome
    (λ certificate. IsPutAgain certificate new (report.WriteFault f) before after)
MigrationLeaves new other outcome before after = after ≡ before

-- the file of the certificate alone is come to, where its name isn't the new one
pub record MigrationComesTo (old new : List ℕ) (f : FileRef) (held : List ℕ) : Type 0 where
  pub apart : bytes_eq old new ≡ false
  pub is_file : IsFile file.Certificate old f held

-- The certificate OLD is put again as NEW: whatever the shelf and the tray tell, one put was made where it says that the
-- certificate was put, and no second one, and the shelf was only looked at.
pub record IsMigrationOf (old new : List ℕ) (answer : Report) (shelf shelved : ShelfState)
    (before after : TrayState) : Type 0 where
  pub run : IsRunOf (λ fs. migrating_of fs old new) (λ fs. MigrationComesTo old new) IsMigrationEnd
      (MigrationLeaves new) answer shelf shelved before after
  pub one_put : answer ≡ report.Migrated → (certificate : Certificate)
      × IsPutAgain certificate new report.Migrated before after
  pub at_most_one_put : HasAtMostOnePut new before after
  pub looked : HasOnlyLooked output_limit shelf shelved
