-- What a priori files state, table by table.
use Rattle.std.proofs.Common.{◌≡◌, ℕ, zero, suc, ◌+◌, ◌-◌, ◌<◌, List, Option, None, Some, Ok, Err, length, refl, ap, subst, ◌∙◌, arith, add-one}
use Rattle.sdc_base.specs.Answers.{Fails}
use Rattle.office_io.specs.Files.{Files}
use Rattle.apriori.specs.declared.prior.Prior.{Prior}
use Rattle.apriori.specs.Applying.{file_says}
use Rattle.apriori.specs.KnownCells.{Basis, basis_of}
use Rattle.std.specs.Prelude.{replicate}
use Rattle.apriori.specs.Priors.{empty_prior}
use Rattle.job_inputs.specs.Cells.{cells, prior_fault}
use Rattle.job_inputs.proofs.Facts.{basis-is}
use Rattle.job_lang.specs.declared.job.PriorLine.{PriorLine}
use Rattle.job_inputs.specs.CountedRecords.{IsCountedOf}
use Rattle.job_inputs.specs.Looks.{StatementsComeTo}
use Rattle.sdc_base.specs.Steps.{map_fault}
use Rattle.job_inputs.proofs.Refusing.{fails-on}
use Rattle.job_inputs.specs.ReadFiles.{bytes_of_file}
use Rattle.job_inputs.specs.declared.file_ref.FileRef.TheVariants as file
use Rattle.job_inputs.specs.PriorStatements.{basis_in, prior_line, with_file, with_files}
use Rattle.job_inputs.specs.declared.counted.TabulatedJob.{TabulatedJob}
use Rattle.job_inputs.specs.declared.described.DescribedJob.{DescribedJob}
use Rattle.job_inputs.specs.declared.inputs.Inputs.{Inputs}
use Rattle.job_inputs.specs.declared.faults.Fault.{Fault}

-- before the first table nothing is stated
pub files-none : (files : Files) (inputs : Inputs) (priors : List Prior) (n : ℕ) → priors ≡ replicate n empty_prior → n ≡ length (cells inputs) → with_files files inputs 0 ≡ Ok priors
unfolding with_files
files-none files inputs priors n blanks many = rw (blanks, many) refl

-- the file of one table more
pub files-more : (files : Files) (inputs : Inputs) (described : DescribedJob) (t : ℕ) (stated next : List Prior) → described ≡ inputs.described → with_files files inputs t ≡ Ok stated
    → with_file files inputs t (prior_line t described.job.priors) stated ≡ Ok next → with_files files inputs (t + 1) ≡ Ok next
unfolding with_files
files-more files inputs described t stated next is before one =
    let here = subst (λ (d : DescribedJob). with_file files inputs t (prior_line t d.job.priors) stated ≡ Ok next) is one in
    rw (add-one, before) here

-- a fault stands, however many tables follow
files-err : (files : Files) (inputs : Inputs) (more t tables : ℕ) (f : Fault) → tables ≡ more + t → with_files files inputs t ≡ Err f → with_files files inputs tables ≡ Err f
unfolding with_files
files-err files inputs zero t tables f is h = let same : t ≡ tables = omega (arith, is) in subst (λ (n : ℕ). with_files files inputs n ≡ Err f) same h
files-err files inputs (suc more) t tables f is h =
    let one : tables ≡ suc (more + t) = omega (arith, is) in
    rw (one, files-err files inputs more t (more + t) f refl h) refl

one-stops : (files : Files) (inputs : Inputs) (described : DescribedJob) (t : ℕ) (stated : List Prior) (f : Fault) → described ≡ inputs.described → with_files files inputs t ≡ Ok stated
    → with_file files inputs t (prior_line t described.job.priors) stated ≡ Err f → with_files files inputs (t + 1) ≡ Err f
unfolding with_files
one-stops files inputs described t stated f is before stops =
    let here = subst (λ (d : DescribedJob). with_file files inputs t (prior_line t d.job.priors) stated ≡ Err f) is stops in
    rw (add-one, before) here

-- what stops one table's file stops all
pub files-stop : (files : Files) (inputs : Inputs) (described : DescribedJob) (t tables : ℕ) (stated : List Prior) (o : Option Fault) → described ≡ inputs.described → with_files files inputs t ≡ Ok stated
    → Fails o (with_file files inputs t (prior_line t described.job.priors) stated) → t < tables → Fails o (with_files files inputs tables)
files-stop files inputs described t tables stated None is before stops within = tt
files-stop files inputs described t tables stated (Some f) is before stops within =
    let more : ℕ = tables - (t + 1) in
    let whole : tables ≡ more + (t + 1) = omega (arith, within) in
    files-err files inputs more (t + 1) tables f whole (one-stops files inputs described t stated f is before stops)

-- what the code's book says of a file is what the inputs say of it
pub apply-same : (inputs : Inputs) (counted : TabulatedJob) (t : ℕ) (line : PriorLine) (bytes : List ℕ) (priors : List Prior) → IsCountedOf inputs counted
    → file_says (basis_of counted.book) t line.separator counted.described.bound.decimals priors bytes ≡ file_says (basis_in inputs) t line.separator inputs.described.bound.decimals priors bytes
apply-same inputs counted t line bytes priors is =
    ap (λ (d : DescribedJob). file_says (basis_of counted.book) t line.separator d.bound.decimals priors bytes) is.described
    ∙ ap (λ (basis : Basis). file_says basis t line.separator inputs.described.bound.decimals priors bytes) (basis-is inputs counted.book is.book)

-- a table's own file is looked at where those of the tables before it have no fault
pub comes-statement : (files : Files) (inputs : Inputs) (described : DescribedJob) (t : ℕ) (stated : List Prior) (line : PriorLine) (held : List ℕ) → described ≡ inputs.described → with_files files inputs t ≡ Ok stated
    → prior_line t described.job.priors ≡ Some line → held ≡ line.file → StatementsComeTo files inputs t held
comes-statement files inputs described t stated line held is before stands named = record {
  line = line;
  stands = subst (λ (d : DescribedJob). prior_line t d.job.priors ≡ Some line) is stands;
  before = rw before refl;
  names = named;
}

-- ---- one table's file

pub prior-file-none : (files : Files) (inputs : Inputs) (t : ℕ) (line : Option PriorLine) (stated : List Prior) → line ≡ None → with_file files inputs t line stated ≡ Ok stated
unfolding with_file
prior-file-none files inputs t line stated none = rw none refl

pub prior-file-stops : (files : Files) (inputs : Inputs) (t : ℕ) (told : Option PriorLine) (line : PriorLine) (stated : List Prior) (o : Option Fault) → told ≡ Some line → Fails o (bytes_of_file files line.file (file.Apriori t)) → Fails o (with_file files inputs t told stated)
unfolding with_file
prior-file-stops files inputs t told line stated o is h = rw is (fails-on o (bytes_of_file files line.file (file.Apriori t)) _ h)

pub prior-contents-stop : (files : Files) (inputs : Inputs) (t : ℕ) (told : Option PriorLine) (line : PriorLine) (bytes : List ℕ) (stated : List Prior) (o : Option Fault) → told ≡ Some line → bytes_of_file files line.file (file.Apriori t) ≡ Ok bytes
    → Fails o (map_fault prior_fault (file_says (basis_in inputs) t line.separator inputs.described.bound.decimals stated bytes)) → Fails o (with_file files inputs t told stated)
unfolding with_file
prior-contents-stop files inputs t told line bytes stated o is read h = rw (is, read) h

pub prior-file-is : (files : Files) (inputs : Inputs) (t : ℕ) (told : Option PriorLine) (line : PriorLine) (bytes : List ℕ) (stated next : List Prior) → told ≡ Some line → bytes_of_file files line.file (file.Apriori t) ≡ Ok bytes
    → map_fault prior_fault (file_says (basis_in inputs) t line.separator inputs.described.bound.decimals stated bytes) ≡ Ok next → with_file files inputs t told stated ≡ Ok next
unfolding with_file
prior-file-is files inputs t told line bytes stated next is read h = rw (is, read) h
