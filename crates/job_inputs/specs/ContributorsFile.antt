-- The extra cells that a contributors' file holds, or what is wrong with it (own).
use Rattle.std.specs.Prelude.{ℕ, List, Result}
use Rattle.sdc_base.specs.Steps.{◌>>=◌, map_fault}
use Rattle.office_io.specs.Files.{Files}
use Rattle.certificate.specs.ExtraReadings.{extra_of}
use Rattle.certificate.specs.ExtraTexts.{IsExtraSpellable, IsExtraWithinTypes}
use Rattle.certificate.specs.declared.extra.Extra.{Extra}
use Rattle.certificate.specs.declared.faults.CertError.{CertError}
use Rattle.certificate.specs.declared.faults.CertError.TheVariants as error
use Rattle.certificate.specs.declared.faults.CertWhy.{CertWhy}
use Rattle.job_inputs.specs.ReadFiles.{bytes_of_file}
use Rattle.job_inputs.specs.declared.file_ref.FileRef.TheVariants as file
use Rattle.job_inputs.specs.declared.faults.Fault.{Fault}
use Rattle.job_inputs.specs.declared.faults.Fault.TheVariants as fault
use Rattle.plain_text.specs.declared.stop.Stop.{Stop}
use Rattle.plain_text.specs.declared.stop.Stop.TheVariants as refusal

-- what is wrong with a contributors' file, as a fault of the files
abbrev pub contributors_fault : ℕ × CertWhy → Fault
contributors_fault at = fault.Contributors at.0 at.1

-- the extra cells under a name, or the first fault of their file: Absent, TooLong, then that of its first bad line
unfoldable pub extra_in : Files → List ℕ → Result Extra Fault
extra_in files name = do
  bytes ← bytes_of_file files name file.Contributors
  map_fault contributors_fault (extra_of bytes)

-- an error of the contributors' file as a refusal
abbrev pub contributors_refusal : CertError → Stop Fault
contributors_refusal (error.At line why) = refusal.Fault (fault.Contributors line why)
contributors_refusal error.Memory = refusal.Memory

-- the extra cells with their needs and guards have a text, and its numbers are within their types
pub record IsSoundExtra (extra : Extra) : Type 0 where
  pub spellable : IsExtraSpellable extra
  pub within : IsExtraWithinTypes extra
