-- What a job's files hold with the certificate and the tables that stand under its names, or the first fault (own).
use Rattle.std.specs.Prelude.{ℕ, List, Option, Result, Ok}
use Rattle.sdc_base.specs.Steps.{◌>>=◌}
use Rattle.certificate.specs.declared.certificate.Certificate.{Certificate}
use Rattle.certificate.specs.declared.extra.Extra.{Extra}
use Rattle.office_io.specs.Files.{Files}
use Rattle.job_inputs.specs.CertificateFile.{certificate_in}
use Rattle.job_inputs.specs.ClassifiedJobs.{SettledInputs, settled_of}
use Rattle.job_inputs.specs.Tables.{tables_of}
use Rattle.job_inputs.specs.declared.faults.Fault.{Fault}
use Rattle.job_inputs.specs.declared.purpose.Purpose.TheVariants as purpose
use Rattle.job_check.specs.Contributors.{extra_for}

-- the settled inputs of a job, its certificate, its extra cells where it names a file of them, and the bytes of its
-- tables
pub record ReleasedFiles : Type 0 where
  pub settled : SettledInputs
  pub certificate : Certificate
  pub extra : Option Extra
  pub tables : List (List ℕ)

-- what these make
abbrev pub released_with : SettledInputs → Certificate → Option Extra → List (List ℕ) → ReleasedFiles
released_with settled certificate extra tables =
    record { settled = settled; certificate = certificate; extra = extra; tables = tables }

-- all that a check reads, or the first fault: those of the inputs, then those of the certificate, then those of the
-- contributors' file, then those of the tables
unfoldable pub released_of : Files → List ℕ → Result ReleasedFiles Fault
released_of files name = do
  settled ← settled_of purpose.Release files name
  certificate ← certificate_in files settled.inputs.described.job.certificate
  extra ← extra_for files settled.inputs.described.job.contributors
  tables ← tables_of files settled.inputs.described.job
  Ok (released_with settled certificate extra tables)
