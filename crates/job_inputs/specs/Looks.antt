-- To which file a run comes, when nothing before it has a fault (own).
use Rattle.std.specs.Prelude.{◌≡◌, ℕ, List, ◌∷◌, ◌++◌, Some, Result, Ok, IsOk}
use Rattle.sdc_base.specs.Steps.{◌>>=◌}
use Rattle.office_io.specs.Files.{Files}
use Rattle.rda_meta.specs.declared.meta.Shape.{Shape}
use Rattle.rda_meta.specs.declared.meta.Shape.TheVariants as shape
use Rattle.rda_meta.specs.declared.meta.Variable.{Variable}
use Rattle.job_lang.specs.declared.job.Job.{Job}
use Rattle.job_lang.specs.declared.job.PriorLine.{PriorLine}
use Rattle.linked_tables.specs.Tables.{book_with_depths}
use Rattle.job_inputs.specs.Inputs.{job_for, described_of, inputs_of}
use Rattle.job_inputs.specs.CodeSources.{codes_in, fields_of, spanning_variables}
use Rattle.job_inputs.specs.ReadFiles.{bytes_of_file}
use Rattle.job_inputs.specs.PriorStatements.{prior_line, with_files}
use Rattle.job_inputs.specs.declared.described.DescribedJob.{DescribedJob}
use Rattle.job_inputs.specs.declared.inputs.Inputs.{Inputs}
use Rattle.job_inputs.specs.declared.file_ref.FileRef.{FileRef}
use Rattle.job_inputs.specs.declared.file_ref.FileRef.TheVariants as file
use Rattle.job_inputs.specs.declared.faults.Fault.{Fault}
use Rattle.job_inputs.specs.declared.purpose.Purpose.{Purpose}

-- this file alone, by this name
pub record IsFile (wanted : FileRef) (name : List ℕ) (f : FileRef) (held : List ℕ) : Type 0 where
  pub is_file : f ≡ wanted
  pub is_name : held ≡ name

-- the job of the named file, or the first fault on the way to it
unfoldable pub job_read : Purpose → Files → List ℕ → Result Job Fault
job_read purpose files name = do
  bytes ← bytes_of_file files name file.Job
  job_for purpose bytes

-- Reading job and metadata comes to this file, which has this name: to the job; or to the metadata of a job without
-- fault.
abbrev pub ComesFirstTo : Purpose → Files → List ℕ → FileRef → List ℕ → Type 0
ComesFirstTo purpose files name file.Job held = held ≡ name
ComesFirstTo purpose files name file.Metadata held =
    (job : Job) × (job_read purpose files name ≡ Ok job) × (held ≡ job.meta)
ComesFirstTo purpose files name other held = ⊥

-- the variable has its codes from this hierarchy file
abbrev pub IsListedIn : List ℕ → Shape → Type 0
IsListedIn held (shape.Listed name lead) = held ≡ name
IsListedIn held other = ⊥

-- the variable's hierarchy file, which has this name
pub record IsHierarchyOf (place : ℕ) (from : Shape) (f : FileRef) (held : List ℕ) : Type 0 where
  pub is_file : f ≡ file.Hierarchy place
  pub listed : IsListedIn held from

-- the variable's code list, which has this name
pub record IsCodeListOf (place : ℕ) (variable : Variable) (f : FileRef) (held : List ℕ) : Type 0 where
  pub is_file : f ≡ file.CodeList place
  pub is_name : variable.codes ≡ Some held

-- The files of a variable are read up to this one, which has this name: its code list; or its hierarchy, where its list
-- has no fault.
abbrev pub FieldComesTo : Files → ℕ → Variable → FileRef → List ℕ → Type 0
FieldComesTo files place variable (file.CodeList at) held = (at ≡ place) × (variable.codes ≡ Some held)
FieldComesTo files place variable (file.Hierarchy at) held = (at ≡ place)
    × IsOk (codes_in files place variable.total variable.codes) × IsListedIn held variable.shape
FieldComesTo files place variable other held = ⊥

-- the files of these variables are read up to this one, and those of the variables before it have no fault
pub record FieldsComeTo (files : Files) (variables : List (ℕ × Variable)) (f : FileRef) (held : List ℕ) : Type 0 where
  pub before : List (ℕ × Variable)
  pub one : ℕ × Variable
  pub behind : List (ℕ × Variable)
  pub stands : variables ≡ before ++ one ∷ behind
  pub no_fault_before : IsOk (fields_of files before)
  pub comes : FieldComesTo files one.0 one.1 f held

-- the a priori files of the tables before this one have no fault, and its own has this name
pub record StatementsComeTo (files : Files) (inputs : Inputs) (t : ℕ) (held : List ℕ) : Type 0 where
  pub line : PriorLine
  pub stands : prior_line t inputs.described.job.priors ≡ Some line
  pub before : IsOk (with_files files inputs t)
  pub names : held ≡ line.file

-- the a priori files of a job's tables are read up to this one, which has this name, and those before it have no fault
abbrev pub ComesToStatements : Files → Inputs → FileRef → List ℕ → Type 0
ComesToStatements files inputs f held = (t : ℕ) × (f ≡ file.Apriori t) × StatementsComeTo files inputs t held

-- the a priori file of table t, by the name on its line of the job
abbrev pub IsPriorFileOf : ℕ → List PriorLine → FileRef → List ℕ → Type 0
IsPriorFileOf t lines f held =
    (line : PriorLine) × (prior_line t lines ≡ Some line) × (f ≡ file.Apriori t) × (held ≡ line.file)

-- the run comes to this file, which has this name, and nothing before it has a fault
abbrev pub InputsComeTo : Purpose → Files → List ℕ → FileRef → List ℕ → Type 0
InputsComeTo purpose files name file.Job held = ComesFirstTo purpose files name file.Job held
InputsComeTo purpose files name file.Metadata held = ComesFirstTo purpose files name file.Metadata held
InputsComeTo purpose files name (file.CodeList at) held = (described : DescribedJob)
    × (described_of purpose files name ≡ Ok described)
    × FieldsComeTo files (spanning_variables described) (file.CodeList at) held
InputsComeTo purpose files name (file.Hierarchy at) held = (described : DescribedJob)
    × (described_of purpose files name ≡ Ok described)
    × FieldsComeTo files (spanning_variables described) (file.Hierarchy at) held
InputsComeTo purpose files name file.Microdata held =
    (described : DescribedJob) × (described_of purpose files name ≡ Ok described)
    × IsOk (fields_of files (spanning_variables described)) × (held ≡ described.job.micro)
InputsComeTo purpose files name (file.Apriori t) held = (inputs : Inputs) × (inputs_of purpose files name ≡ Ok inputs)
    × IsOk (book_with_depths inputs.records.trees inputs.described.bound.tables) × StatementsComeTo files inputs t held
InputsComeTo purpose files name other held = ⊥
