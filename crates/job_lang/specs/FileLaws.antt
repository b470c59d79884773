-- Laws of the names of files: what a job puts is neither read nor put twice (own).
use Rattle.std.specs.Prelude.{◌≡◌, ◌≢◌, ℕ, if◌then◌else◌, List, [], ◌∷◌, ◌++◌, map, Option, None, Some, Ok}
use Rattle.std.specs.List.{AllByRecursion, IsDistinct}
use Rattle.std.specs.Str.{bytes_eq}
use Rattle.rda_meta.specs.declared.meta.Meta.{Meta}
use Rattle.rda_meta.specs.declared.meta.Shape.{Shape}
use Rattle.rda_meta.specs.declared.meta.Shape.TheVariants as shape
use Rattle.rda_meta.specs.declared.meta.Variable.{Variable}
use Rattle.job_lang.specs.declared.job.Job.{Job}
use Rattle.job_lang.specs.declared.job.OutputLine.{OutputLine}
use Rattle.job_lang.specs.declared.job.TableLine.{TableLine}
use Rattle.job_lang.specs.declared.bound.Bound.{Bound}
use Rattle.job_lang.specs.Jobs.{job_of}
use Rattle.job_lang.specs.Binding.{bound_of}
use Rattle.job_lang.specs.BindingFaults.{is_spanning}

-- the list of codes of a variable, where there is one
abbrev pub codes_named : Option (List ℕ) → List (List ℕ)
codes_named None = []
codes_named (Some file) = file ∷ []

-- the hierarchy file of a variable, where there is one
abbrev pub tree_named : Shape → List (List ℕ)
tree_named (shape.Listed file lead) = file ∷ []
tree_named other = []

-- the files that the metadata name for variables that span tables
abbrev pub files_of : List TableLine → List Variable → List (List ℕ)
files_of tables [] = []
files_of tables (v ∷ variables) = (if is_spanning tables v.name then codes_named v.codes ++ tree_named v.shape else [])
    ++ files_of tables variables

-- the contributors' file, where there is one
abbrev pub contributors_files : Option OutputLine → List (List ℕ)
contributors_files None = []
contributors_files (Some output) = output.file ∷ []

-- the files that a job puts
abbrev pub puts_of : Job → List (List ℕ)
puts_of job = job.certificate ∷ contributors_files job.contributors ++ map (λ o. o.file) job.outputs

-- the files that a job names to be read
abbrev pub reads_of : Job → List (List ℕ)
reads_of job = job.micro ∷ job.meta ∷ map (λ p. p.file) job.priors

-- No file that a job puts is one that it reads.
abbrev pub PutsAreNotRead : Type 0
PutsAreNotRead =
    (bytes : List ℕ) (job : Job) → job_of bytes ≡ Ok job
    → AllByRecursion (λ put. AllByRecursion (λ read. put ≢ read) (reads_of job)) (puts_of job)

-- No file that a bound job puts is a code list or a hierarchy file that is read for it.
abbrev pub PutsAreNotNamed : Type 0
PutsAreNotNamed =
    (job : Job) (meta : Meta) (bound : Bound) → bound_of job meta ≡ Ok bound
    → AllByRecursion (λ put. AllByRecursion (λ read. put ≢ read) (files_of job.tables meta.variables)) (puts_of job)

-- No file that a job puts has the name of another one that it puts.
abbrev pub PutsDiffer : Type 0
PutsDiffer = (bytes : List ℕ) (job : Job) → job_of bytes ≡ Ok job → IsDistinct bytes_eq (puts_of job)
