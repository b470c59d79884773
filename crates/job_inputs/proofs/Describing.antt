-- Job and metadata, read one after the other.
use Rattle.std.proofs.Common.{◌≡◌, ℕ, true, false, List, Option, Ok, Err, refl}
use Rattle.sdc_base.specs.Answers.{Fails}
use Rattle.sdc_base.specs.Steps.{map_fault}
use Rattle.office_io.specs.Files.{Files}
use Rattle.rda_meta.specs.Metadata.{meta_of}
use Rattle.rda_meta.specs.declared.meta.Meta.{Meta}
use Rattle.job_lang.specs.Binding.{bound_of}
use Rattle.job_lang.specs.Jobs.{job_of}
use Rattle.job_lang.specs.declared.faults.JobWhy.TheVariants.{BadValue}
use Rattle.job_lang.specs.declared.bound.Bound.{Bound}
use Rattle.job_lang.specs.declared.job.Job.{Job}
use Rattle.job_inputs.specs.Inputs.{job_for, described_of}
use Rattle.job_inputs.specs.ReadFiles.{bytes_of_file, job_fault, meta_fault}
use Rattle.job_inputs.specs.Looks.{job_read, IsFile, ComesFirstTo}
use Rattle.job_inputs.specs.Purposes.{is_unfit}
use Rattle.job_inputs.specs.declared.faults.Fault.TheVariants as fault
use Rattle.job_inputs.specs.declared.file_ref.FileRef.TheVariants as file
use Rattle.job_inputs.specs.declared.faults.Fault.{Fault}
use Rattle.job_inputs.specs.declared.file_ref.FileRef.{FileRef}
use Rattle.job_inputs.specs.declared.purpose.Purpose.{Purpose}
use Rattle.job_inputs.proofs.Refusing.{fails-on}

-- the job of its bytes, where they can be read and its method is fit
pub job-is-for : (purpose : Purpose) (bytes : List ℕ) (job : Job) → job_of bytes ≡ Ok job → is_unfit purpose job.method ≡ false → job_for purpose bytes ≡ Ok job
unfolding job_for
job-is-for purpose bytes job read fit = rw (read, fit) refl

-- what is wrong with its lines, and an unfit method
pub job-unread : (purpose : Purpose) (bytes : List ℕ) (o : Option Fault) → Fails o (map_fault job_fault (job_of bytes)) → Fails o (job_for purpose bytes)
unfolding job_for
job-unread purpose bytes o h = fails-on o (map_fault job_fault (job_of bytes)) _ h

pub job-unfit : (purpose : Purpose) (bytes : List ℕ) (job : Job) → job_of bytes ≡ Ok job → is_unfit purpose job.method ≡ true → job_for purpose bytes ≡ Err (fault.Job 0 BadValue)
unfolding job_for
job-unfit purpose bytes job read unfit = rw (read, unfit) refl

pub job-was-read : (purpose : Purpose) (files : Files) (name bytes : List ℕ) (job : Job) → bytes_of_file files name file.Job ≡ Ok bytes → job_for purpose bytes ≡ Ok job → job_read purpose files name ≡ Ok job
unfolding job_read
job-was-read purpose files name bytes job found read = rw (found, read) refl

pub described-is : (purpose : Purpose) (files : Files) (name bytes text : List ℕ) (job : Job) (meta : Meta) (bound : Bound) → bytes_of_file files name file.Job ≡ Ok bytes → job_for purpose bytes ≡ Ok job
    → bytes_of_file files job.meta file.Metadata ≡ Ok text → map_fault meta_fault (meta_of text) ≡ Ok meta → map_fault job_fault (bound_of job meta) ≡ Ok bound
    → described_of purpose files name ≡ Ok (record { job = job; meta = meta; bound = bound })
unfolding described_of
described-is purpose files name bytes text job meta bound found read told said looked = rw (found, read, told, said, looked) refl

-- what stops the job's file stops all, and so do what it says, the metadata's file, what they say, and what they don't have
pub job-file-stops : (purpose : Purpose) (files : Files) (name : List ℕ) (o : Option Fault) → Fails o (bytes_of_file files name file.Job) → Fails o (described_of purpose files name)
unfolding described_of
job-file-stops purpose files name o h = fails-on o (bytes_of_file files name file.Job) _ h

pub job-stops : (purpose : Purpose) (files : Files) (name bytes : List ℕ) (o : Option Fault) → bytes_of_file files name file.Job ≡ Ok bytes → Fails o (job_for purpose bytes) → Fails o (described_of purpose files name)
unfolding described_of
job-stops purpose files name bytes o found h = rw found (fails-on o (job_for purpose bytes) _ h)

pub meta-file-stops : (purpose : Purpose) (files : Files) (name bytes : List ℕ) (job : Job) (o : Option Fault) → bytes_of_file files name file.Job ≡ Ok bytes → job_for purpose bytes ≡ Ok job → Fails o (bytes_of_file files job.meta file.Metadata) → Fails o (described_of purpose files name)
unfolding described_of
meta-file-stops purpose files name bytes job o found read h = rw (found, read) (fails-on o (bytes_of_file files job.meta file.Metadata) _ h)

pub meta-stops : (purpose : Purpose) (files : Files) (name bytes text : List ℕ) (job : Job) (o : Option Fault) → bytes_of_file files name file.Job ≡ Ok bytes → job_for purpose bytes ≡ Ok job → bytes_of_file files job.meta file.Metadata ≡ Ok text
    → Fails o (map_fault meta_fault (meta_of text)) → Fails o (described_of purpose files name)
unfolding described_of
meta-stops purpose files name bytes text job o found read told h = rw (found, read, told) (fails-on o (map_fault meta_fault (meta_of text)) _ h)

pub bound-stops : (purpose : Purpose) (files : Files) (name bytes text : List ℕ) (job : Job) (meta : Meta) (o : Option Fault) → bytes_of_file files name file.Job ≡ Ok bytes → job_for purpose bytes ≡ Ok job
    → bytes_of_file files job.meta file.Metadata ≡ Ok text → map_fault meta_fault (meta_of text) ≡ Ok meta → Fails o (map_fault job_fault (bound_of job meta)) → Fails o (described_of purpose files name)
unfolding described_of
bound-stops purpose files name bytes text job meta o found read told said h = rw (found, read, told, said) (fails-on o (map_fault job_fault (bound_of job meta)) _ h)

-- the metadata's file is come to by the name in the job
pub meta-comes : (purpose : Purpose) (files : Files) (name : List ℕ) (job : Job) (f : FileRef) (held : List ℕ) → job_read purpose files name ≡ Ok job → IsFile file.Metadata job.meta f held → ComesFirstTo purpose files name f held
meta-comes purpose files name job f held read comes = rw comes.is_file (job, read, comes.is_name)

pub job-comes : (purpose : Purpose) (files : Files) (name : List ℕ) (f : FileRef) (held : List ℕ) → IsFile file.Job name f held → ComesFirstTo purpose files name f held
job-comes purpose files name f held comes = rw comes.is_file comes.is_name
