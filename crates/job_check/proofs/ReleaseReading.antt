-- What stops the reading of a release, and to which file it comes.
use Rattle.std.proofs.Common.{◌≡◌, ℕ, List, Option, None, Some, Result, Ok, Err, IsOkAnd, refl, ap, ◌∙◌, subst}
use Rattle.sdc_base.specs.Answers.{Fails}
use Rattle.certificate.specs.declared.certificate.Certificate.{Certificate}
use Rattle.certificate.specs.declared.extra.Extra.{Extra}
use Rattle.job_lang.specs.declared.job.OutputLine.{OutputLine}
use Rattle.office_io.specs.Files.{Files}
use Rattle.job_inputs.proofs.Refusing.{fails-on}
use Rattle.job_inputs.specs.CertificateFile.{certificate_in}
use Rattle.job_inputs.specs.Looks.{IsFile, InputsComeTo}
use Rattle.job_inputs.specs.ClassifiedJobs.{SettledInputs, settled_of, IsSettledOf}
use Rattle.job_inputs.specs.Tables.{tables_of, ComesToTables, TablesComeTo}
use Rattle.job_inputs.specs.declared.described.DescribedJob.{DescribedJob}
use Rattle.job_inputs.specs.declared.faults.Fault.{Fault}
use Rattle.job_inputs.specs.declared.file_ref.FileRef.{FileRef}
use Rattle.job_inputs.specs.declared.file_ref.FileRef.TheVariants as file
use Rattle.job_inputs.specs.declared.purpose.Purpose.TheVariants as purpose
use Rattle.job_inputs.specs.declared.settled.ClassifiedJob.{ClassifiedJob}
use Rattle.job_check.specs.Contributors.{extra_for, IsContributorsFile}
use Rattle.job_check.specs.Reading.{IsReleasedOf, ReleaseComesTo}
use Rattle.job_check.specs.ReleaseFiles.{released_of, released_with}
use Rattle.job_check.specs.declared.reading.ReadRelease.{ReadRelease}

-- a value that has a property, where there is one
pub ok-and : {A F : Type 0} (P : A → Type 0) (o : Result A F) → IsOkAnd o P → (x : A) × (o ≡ Ok x) × P x
ok-and P (Ok x) h = (x, refl, h)
ok-and P (Err f) h = absurd h

-- ---- what stops the reading

-- what stops the settled inputs stops all
pub settled-fails : (files : Files) (name : List ℕ) (o : Option Fault) → Fails o (settled_of purpose.Release files name) → Fails o (released_of files name)
unfolding released_of
settled-fails files name o h = fails-on o (settled_of purpose.Release files name) _ h

certificate-fails : (files : Files) (name : List ℕ) (settled : SettledInputs) (o : Option Fault) → settled_of purpose.Release files name ≡ Ok settled → Fails o (certificate_in files settled.inputs.described.job.certificate) → Fails o (released_of files name)
unfolding released_of
certificate-fails files name settled o read h = rw read (fails-on o (certificate_in files settled.inputs.described.job.certificate) _ h)

extra-fails : (files : Files) (name : List ℕ) (settled : SettledInputs) (certificate : Certificate) (o : Option Fault) → settled_of purpose.Release files name ≡ Ok settled → certificate_in files settled.inputs.described.job.certificate ≡ Ok certificate
    → Fails o (extra_for files settled.inputs.described.job.contributors) → Fails o (released_of files name)
unfolding released_of
extra-fails files name settled certificate o read signed h = rw (read, signed) (fails-on o (extra_for files settled.inputs.described.job.contributors) _ h)

tables-fail : (files : Files) (name : List ℕ) (settled : SettledInputs) (certificate : Certificate) (extra : Option Extra) (o : Option Fault) → settled_of purpose.Release files name ≡ Ok settled → certificate_in files settled.inputs.described.job.certificate ≡ Ok certificate
    → extra_for files settled.inputs.described.job.contributors ≡ Ok extra → Fails o (tables_of files settled.inputs.described.job) → Fails o (released_of files name)
unfolding released_of
tables-fail files name settled certificate extra o read signed beside h = rw (read, signed, beside) (fails-on o (tables_of files settled.inputs.described.job) _ h)

released-is : (files : Files) (name : List ℕ) (settled : SettledInputs) (certificate : Certificate) (extra : Option Extra) (tables : List (List ℕ)) → settled_of purpose.Release files name ≡ Ok settled → certificate_in files settled.inputs.described.job.certificate ≡ Ok certificate
    → extra_for files settled.inputs.described.job.contributors ≡ Ok extra → tables_of files settled.inputs.described.job ≡ Ok tables → released_of files name ≡ Ok (released_with settled certificate extra tables)
unfolding released_of
released-is files name settled certificate extra tables read signed beside put = rw (read, signed, beside, put) refl

-- ---- the same, for the job that was read

-- the files come to settled inputs, which are those of this job
abbrev pub WasSettled : Files → List ℕ → ClassifiedJob → Type 0
WasSettled files name job = IsOkAnd (settled_of purpose.Release files name) (λ settled. IsSettledOf settled job)

record Inputs (files : Files) (name : List ℕ) (job : ClassifiedJob) : Type 0 where
  settled : SettledInputs
  read : settled_of purpose.Release files name ≡ Ok settled
  is : IsSettledOf settled job

inputs-of : (files : Files) (name : List ℕ) (job : ClassifiedJob) → WasSettled files name job → Inputs files name job
inputs-of files name job was = let it = ok-and (λ settled. IsSettledOf settled job) (settled_of purpose.Release files name) was in record { settled = it.0; read = it.1; is = it.2 }

-- so does what stops the certificate
pub no-certificate : (files : Files) (name : List ℕ) (job : ClassifiedJob) (o : Option Fault) → WasSettled files name job → Fails o (certificate_in files job.described.job.certificate) → Fails o (released_of files name)
no-certificate files name job o was h =
    let it = inputs-of files name job was in
    certificate-fails files name it.settled o it.read (subst (λ (d : DescribedJob). Fails o (certificate_in files d.job.certificate)) it.is.described h)

-- what stops the contributors' file
pub no-extra : (files : Files) (name : List ℕ) (job : ClassifiedJob) (certificate : Certificate) (o : Option Fault) → WasSettled files name job → certificate_in files job.described.job.certificate ≡ Ok certificate
    → Fails o (extra_for files job.described.job.contributors) → Fails o (released_of files name)
no-extra files name job certificate o was signed h =
    let it = inputs-of files name job was in
    extra-fails files name it.settled certificate o it.read (subst (λ (d : DescribedJob). certificate_in files d.job.certificate ≡ Ok certificate) it.is.described signed)
    (subst (λ (d : DescribedJob). Fails o (extra_for files d.job.contributors)) it.is.described h)

-- and what stops a table
pub no-tables : (files : Files) (name : List ℕ) (job : ClassifiedJob) (certificate : Certificate) (extra : Option Extra) (o : Option Fault) → WasSettled files name job → certificate_in files job.described.job.certificate ≡ Ok certificate
    → extra_for files job.described.job.contributors ≡ Ok extra → Fails o (tables_of files job.described.job) → Fails o (released_of files name)
no-tables files name job certificate extra o was signed beside h =
    let it = inputs-of files name job was in
    tables-fail files name it.settled certificate extra o it.read (subst (λ (d : DescribedJob). certificate_in files d.job.certificate ≡ Ok certificate) it.is.described signed)
    (subst (λ (d : DescribedJob). extra_for files d.job.contributors ≡ Ok extra) it.is.described beside) (subst (λ (d : DescribedJob). Fails o (tables_of files d.job)) it.is.described h)

-- job, certificate, extra cells and tables are all that there is
pub all-read : (files : Files) (name : List ℕ) (read : ReadRelease) → WasSettled files name read.job → certificate_in files read.job.described.job.certificate ≡ Ok read.certificate → extra_for files read.job.described.job.contributors ≡ Ok read.extra
    → tables_of files read.job.described.job ≡ Ok read.tables → IsOkAnd (released_of files name) (λ released. IsReleasedOf released read)
all-read files name read was signed beside put =
    let it = inputs-of files name read.job was in
    rw (released-is files name it.settled read.certificate read.extra read.tables it.read (subst (λ (d : DescribedJob). certificate_in files d.job.certificate ≡ Ok read.certificate) it.is.described signed)
    (subst (λ (d : DescribedJob). extra_for files d.job.contributors ≡ Ok read.extra) it.is.described beside) (subst (λ (d : DescribedJob). tables_of files d.job ≡ Ok read.tables) it.is.described put))
    (record { settled = it.is; certificate = refl; extra = refl; tables = refl })

-- ---- to which file it comes

pub inputs-come : (files : Files) (name : List ℕ) (f : FileRef) (held : List ℕ) → InputsComeTo purpose.Release files name f held → ReleaseComesTo files name f held
inputs-come files name file.Job held h = h
inputs-come files name file.Metadata held h = h
inputs-come files name (file.CodeList at) held h = h
inputs-come files name (file.Hierarchy at) held h = h
inputs-come files name file.Microdata held h = h
inputs-come files name (file.Apriori t) held h = h
inputs-come files name file.Certificate held h = absurd h
inputs-come files name file.Contributors held h = absurd h
inputs-come files name (file.Table t) held h = absurd h
inputs-come files name file.Out held h = absurd h

pub certificate-comes : (files : Files) (name : List ℕ) (job : ClassifiedJob) (f : FileRef) (held : List ℕ) → WasSettled files name job → IsFile file.Certificate job.described.job.certificate f held → ReleaseComesTo files name f held
certificate-comes files name job f held was comes =
    let it = inputs-of files name job was in
    rw comes.is_file (it.settled, it.read, comes.is_name ∙ ap (λ (d : DescribedJob). d.job.certificate) it.is.described)

by-line : (line : Option OutputLine) (f : FileRef) (held : List ℕ) → IsContributorsFile line f held → (f ≡ file.Contributors) × IsContributorsFile line file.Contributors held
by-line None f held comes = absurd comes
by-line (Some line) f held comes = (comes.is_file, record { is_file = refl; is_name = comes.is_name })

pub contributors-come : (files : Files) (name : List ℕ) (job : ClassifiedJob) (certificate : Certificate) (f : FileRef) (held : List ℕ) → WasSettled files name job → certificate_in files job.described.job.certificate ≡ Ok certificate
    → IsContributorsFile job.described.job.contributors f held → ReleaseComesTo files name f held
contributors-come files name job certificate f held was signed comes =
    let it = inputs-of files name job was in
    let here = subst (λ (d : DescribedJob). certificate_in files d.job.certificate ≡ Ok certificate) it.is.described signed in
    let own = by-line job.described.job.contributors f held comes in
    rw own.0 (it.settled, it.read, rw here refl, subst (λ (d : DescribedJob). IsContributorsFile d.job.contributors file.Contributors held) it.is.described own.1)

pub tables-come : (files : Files) (name : List ℕ) (job : ClassifiedJob) (certificate : Certificate) (extra : Option Extra) (f : FileRef) (held : List ℕ) → WasSettled files name job → certificate_in files job.described.job.certificate ≡ Ok certificate
    → extra_for files job.described.job.contributors ≡ Ok extra → ComesToTables files job.described.job f held → ReleaseComesTo files name f held
tables-come files name job certificate extra f held was signed beside comes =
    let it = inputs-of files name job was in
    let here = subst (λ (d : DescribedJob). certificate_in files d.job.certificate ≡ Ok certificate) it.is.described signed in
    let own = subst (λ (d : DescribedJob). extra_for files d.job.contributors ≡ Ok extra) it.is.described beside in
    rw comes.1 (it.settled, it.read, rw here refl, rw own refl, subst (λ (d : DescribedJob). TablesComeTo files d.job comes.0 held) it.is.described comes.2)
