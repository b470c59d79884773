-- The reading of a release: what was read, and to which file it comes (own).
use Rattle.std.specs.Prelude.{◌≡◌, ℕ, List, length, Result, Ok, Err, IsOk, IsOkAnd}
use Rattle.sdc_base.specs.Answers.{Fails}
use Rattle.office_io.specs.Files.{Files}
use Rattle.job_inputs.specs.CertificateFile.{certificate_in}
use Rattle.job_inputs.specs.Looks.{InputsComeTo}
use Rattle.job_inputs.specs.Reading.{stopped_for}
use Rattle.job_inputs.specs.ClassifiedJobs.{SettledInputs, settled_of, IsReadyJob, IsSettledOf}
use Rattle.job_inputs.specs.Tables.{TablesComeTo}
use Rattle.job_inputs.specs.declared.faults.Fault.{Fault}
use Rattle.job_inputs.specs.declared.file_ref.FileRef.{FileRef}
use Rattle.job_inputs.specs.declared.file_ref.FileRef.TheVariants as file
use Rattle.job_inputs.specs.declared.purpose.Purpose.TheVariants as purpose
use Rattle.job_inputs.specs.declared.stop.InputStop.{InputStop}
use Rattle.job_check.specs.Contributors.{extra_for, AreForJob, IsContributorsFile}
use Rattle.job_check.specs.ReleaseFiles.{ReleasedFiles}
use Rattle.job_check.specs.declared.reading.ReadRelease.{ReadRelease}

-- the job that was read has these settled inputs, and the certificate, the extra cells and the tables are these
pub record IsReleasedOf (released : ReleasedFiles) (read : ReadRelease) : Type 0 where
  pub settled : IsSettledOf released.settled read.job
  pub certificate : read.certificate ≡ released.certificate
  pub extra : read.extra ≡ released.extra
  pub tables : read.tables ≡ released.tables

-- the answer is a release that was read, or the first fault, want of memory and faults of the shelf aside
abbrev pub AreReleased : Result ReadRelease InputStop → Result ReleasedFiles Fault → Type 0
AreReleased (Ok read) meant = IsOkAnd meant (λ released. IsReleasedOf released read)
AreReleased (Err stop) meant = Fails (stopped_for stop) meant

-- the job is ready to be judged, there are extra cells where it names a file of them, and the bytes of a table for each of
-- its outputs
pub record IsReadyRelease (read : ReadRelease) : Type 0 where
  pub job : IsReadyJob read.job
  pub extra : AreForJob read.job.described.job.contributors read.extra
  pub each : length read.tables ≡ length read.job.described.job.outputs

-- The check comes to this file, which has this name, and nothing before it has a fault: a file of the inputs, then the
-- certificate, then the contributors' file of a job that names one, then the tables in the order of the job.
abbrev pub ReleaseComesTo : Files → List ℕ → FileRef → List ℕ → Type 0
ReleaseComesTo files name file.Certificate held =
    (settled : SettledInputs) × (settled_of purpose.Release files name ≡ Ok settled)
    × (held ≡ settled.inputs.described.job.certificate)
ReleaseComesTo files name file.Contributors held =
    (settled : SettledInputs) × (settled_of purpose.Release files name ≡ Ok settled)
    × IsOk (certificate_in files settled.inputs.described.job.certificate)
    × IsContributorsFile settled.inputs.described.job.contributors file.Contributors held
ReleaseComesTo files name (file.Table t) held =
    (settled : SettledInputs) × (settled_of purpose.Release files name ≡ Ok settled)
    × IsOk (certificate_in files settled.inputs.described.job.certificate)
    × IsOk (extra_for files settled.inputs.described.job.contributors)
    × TablesComeTo files settled.inputs.described.job t held
ReleaseComesTo files name other held = InputsComeTo purpose.Release files name other held
