-- The extra cells that a job's contributors' file holds, where the job names one, or what is wrong with it (own).
use Rattle.std.specs.Prelude.{ℕ, List, Option, None, Some, Result, Ok}
use Rattle.sdc_base.specs.Steps.{◌>>=◌}
use Rattle.certificate.specs.declared.extra.Extra.{Extra}
use Rattle.job_lang.specs.declared.job.OutputLine.{OutputLine}
use Rattle.office_io.specs.Files.{Files}
use Rattle.job_inputs.specs.ContributorsFile.{extra_in}
use Rattle.job_inputs.specs.Looks.{IsFile}
use Rattle.job_inputs.specs.declared.faults.Fault.{Fault}
use Rattle.job_inputs.specs.declared.file_ref.FileRef.{FileRef}
use Rattle.job_inputs.specs.declared.file_ref.FileRef.TheVariants as file

-- the extra cells of this file, where there is one, or the first fault of it
abbrev pub extra_for : Files → Option OutputLine → Result (Option Extra) Fault
extra_for files None = Ok None
extra_for files (Some line) = extra_in files line.file >>= λ extra. Ok (Some extra)

-- the contributors' file of a job that names one, by that name
abbrev pub IsContributorsFile : Option OutputLine → FileRef → List ℕ → Type 0
IsContributorsFile None f held = ⊥
IsContributorsFile (Some line) f held = IsFile file.Contributors line.file f held

-- extra cells are read for a job that names a file of them, and for no other
abbrev pub AreForJob : Option OutputLine → Option Extra → Type 0
AreForJob None None = Unit {0}
AreForJob None (Some extra) = ⊥
AreForJob (Some line) None = ⊥
AreForJob (Some line) (Some extra) = Unit {0}
