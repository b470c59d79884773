-- A job's contributors' file, and what is refused of it.
use Rattle.std.proofs.Common.{◌≡◌, ℕ, List, Option, Result, Ok, refl}
use Rattle.sdc_base.specs.Answers.{Fails}
use Rattle.sdc_base.specs.Steps.{map_fault}
use Rattle.office_io.specs.Files.{Files}
use Rattle.certificate.specs.ExtraReadings.{extra_of}
use Rattle.certificate.specs.Faults.{cert_fault_of}
use Rattle.certificate.specs.declared.extra.Extra.{Extra}
use Rattle.certificate.specs.declared.faults.CertError.{CertError}
use Rattle.certificate.specs.declared.faults.CertError.TheVariants as error
use Rattle.certificate.specs.declared.faults.CertWhy.{CertWhy}
use Rattle.job_inputs.proofs.Refusing.{fails-on}
use Rattle.job_inputs.specs.ContributorsFile.{contributors_fault, extra_in, contributors_refusal}
use Rattle.job_inputs.specs.ReadFiles.{bytes_of_file}
use Rattle.plain_text.specs.Stops.{why_of}
use Rattle.job_inputs.specs.Refusals.{IsForContents}
use Rattle.job_inputs.specs.declared.file_ref.FileRef.TheVariants as file
use Rattle.job_inputs.specs.declared.faults.Fault.{Fault}

pub contributors_refuse : {A : Type 0} (e : CertError) (read : Result A (ℕ × CertWhy)) → Fails (cert_fault_of e) read → Fails (why_of (contributors_refusal e)) (map_fault contributors_fault read)
contributors_refuse (error.At line why) read h = rw h refl
contributors_refuse error.Memory read h = tt

pub contributors_are_for_contents : (e : CertError) → IsForContents (contributors_refusal e)
contributors_are_for_contents (error.At line why) = tt
contributors_are_for_contents error.Memory = tt

pub file-stops : (files : Files) (name : List ℕ) (o : Option Fault) → Fails o (bytes_of_file files name file.Contributors) → Fails o (extra_in files name)
unfolding extra_in
file-stops files name o h = fails-on o (bytes_of_file files name file.Contributors) _ h

pub contents-stop-it : (files : Files) (name : List ℕ) (bytes : List ℕ) (o : Option Fault) → bytes_of_file files name file.Contributors ≡ Ok bytes → Fails o (map_fault contributors_fault (extra_of bytes)) → Fails o (extra_in files name)
unfolding extra_in
contents-stop-it files name bytes o read h = rw read h

pub extra-is : (files : Files) (name : List ℕ) (bytes : List ℕ) (extra : Extra) → bytes_of_file files name file.Contributors ≡ Ok bytes → map_fault contributors_fault (extra_of bytes) ≡ Ok extra → extra_in files name ≡ Ok extra
unfolding extra_in
extra-is files name bytes extra read h = rw read h
