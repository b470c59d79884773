-- The certificate that a file holds, or what is wrong with it (own).
use Rattle.std.specs.Prelude.{ℕ, List, Result}
use Rattle.sdc_base.specs.Steps.{◌>>=◌, map_fault}
use Rattle.office_io.specs.Files.{Files}
use Rattle.certificate.specs.Certificates.{certificate_of}
use Rattle.certificate.specs.Spelling.{IsSpellable, IsWithinTypes}
use Rattle.certificate.specs.declared.certificate.Certificate.{Certificate}
use Rattle.certificate.specs.declared.faults.CertError.{CertError}
use Rattle.certificate.specs.declared.faults.CertError.TheVariants as error
use Rattle.certificate.specs.declared.faults.CertWhy.{CertWhy}
use Rattle.job_inputs.specs.ReadFiles.{bytes_of_file}
use Rattle.job_inputs.specs.declared.file_ref.FileRef.TheVariants as file
use Rattle.job_inputs.specs.declared.faults.Fault.{Fault}
use Rattle.job_inputs.specs.declared.faults.Fault.TheVariants as fault
use Rattle.plain_text.specs.declared.stop.Stop.{Stop}
use Rattle.plain_text.specs.declared.stop.Stop.TheVariants as refusal

-- what is wrong with a certificate, as a fault of the files
abbrev pub certificate_fault : ℕ × CertWhy → Fault
certificate_fault at = fault.Certificate at.0 at.1

-- the certificate under a name, or the first fault of its file: Absent, TooLong, then that of its first bad line
unfoldable pub certificate_in : Files → List ℕ → Result Certificate Fault
certificate_in files name = do
  bytes ← bytes_of_file files name file.Certificate
  map_fault certificate_fault (certificate_of bytes)

-- an error of the certificate as a refusal
abbrev pub certificate_refusal : CertError → Stop Fault
certificate_refusal (error.At line why) = refusal.Fault (fault.Certificate line why)
certificate_refusal error.Memory = refusal.Memory

-- the certificate has a text, and its numbers are within their types
pub record IsSoundCertificate (certificate : Certificate) : Type 0 where
  pub spellable : IsSpellable certificate
  pub within : IsWithinTypes certificate
