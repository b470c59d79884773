-- A job's file of a certificate, and what is refused of it.
use Rattle.std.proofs.Common.{◌≡◌, ℕ, List, Option, Result, Ok, refl}
use Rattle.sdc_base.specs.Answers.{Fails}
use Rattle.sdc_base.specs.Steps.{map_fault}
use Rattle.office_io.specs.Files.{Files}
use Rattle.certificate.specs.Certificates.{certificate_of}
use Rattle.certificate.specs.Faults.{cert_fault_of}
use Rattle.certificate.specs.declared.certificate.Certificate.{Certificate}
use Rattle.certificate.specs.declared.faults.CertError.{CertError}
use Rattle.certificate.specs.declared.faults.CertError.TheVariants as error
use Rattle.certificate.specs.declared.faults.CertWhy.{CertWhy}
use Rattle.job_inputs.proofs.Refusing.{fails-on}
use Rattle.job_inputs.specs.CertificateFile.{certificate_fault, certificate_in, certificate_refusal}
use Rattle.job_inputs.specs.ReadFiles.{bytes_of_file}
use Rattle.plain_text.specs.Stops.{why_of}
use Rattle.job_inputs.specs.Refusals.{IsForContents}
use Rattle.job_inputs.specs.declared.file_ref.FileRef.TheVariants as file
use Rattle.job_inputs.specs.declared.faults.Fault.{Fault}

pub certificate_refuses : {A : Type 0} (e : CertError) (read : Result A (ℕ × CertWhy)) → Fails (cert_fault_of e) read → Fails (why_of (certificate_refusal e)) (map_fault certificate_fault read)
certificate_refuses (error.At line why) read h = rw h refl
certificate_refuses error.Memory read h = tt

pub certificate_is_for_contents : (e : CertError) → IsForContents (certificate_refusal e)
certificate_is_for_contents (error.At line why) = tt
certificate_is_for_contents error.Memory = tt

pub file-stops : (files : Files) (name : List ℕ) (o : Option Fault) → Fails o (bytes_of_file files name file.Certificate) → Fails o (certificate_in files name)
unfolding certificate_in
file-stops files name o h = fails-on o (bytes_of_file files name file.Certificate) _ h

pub contents-stop-it : (files : Files) (name : List ℕ) (bytes : List ℕ) (o : Option Fault) → bytes_of_file files name file.Certificate ≡ Ok bytes → Fails o (map_fault certificate_fault (certificate_of bytes)) → Fails o (certificate_in files name)
unfolding certificate_in
contents-stop-it files name bytes o read h = rw read h

pub certificate-is : (files : Files) (name : List ℕ) (bytes : List ℕ) (certificate : Certificate) → bytes_of_file files name file.Certificate ≡ Ok bytes → map_fault certificate_fault (certificate_of bytes) ≡ Ok certificate → certificate_in files name ≡ Ok certificate
unfolding certificate_in
certificate-is files name bytes certificate read h = rw read h
