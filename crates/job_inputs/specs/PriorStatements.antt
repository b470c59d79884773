-- What the a priori files of a job's tables state of its cells, or the first fault of one of them (own).
use Rattle.std.specs.Prelude.{ℕ, zero, suc, ◌==◌, if◌then◌else◌, List, [], ◌∷◌, length, map, replicate, Option, None, Some, Result, Ok}
use Rattle.sdc_base.specs.Steps.{◌>>=◌, map_fault}
use Rattle.sdc_base.specs.Sums.{freq}
use Rattle.office_io.specs.Files.{Files}
use Rattle.job_lang.specs.declared.job.PriorLine.{PriorLine}
use Rattle.apriori.specs.Applying.{file_says}
use Rattle.apriori.specs.KnownCells.{KnownCell, Basis}
use Rattle.apriori.specs.Priors.{empty_prior}
use Rattle.apriori.specs.declared.prior.Prior.{Prior}
use Rattle.job_inputs.specs.ReadFiles.{bytes_of_file}
use Rattle.job_inputs.specs.Cells.{cells, truth_in, prior_fault}
use Rattle.job_inputs.specs.declared.inputs.Inputs.{Inputs}
use Rattle.job_inputs.specs.declared.file_ref.FileRef.TheVariants as file
use Rattle.job_inputs.specs.declared.faults.Fault.{Fault}

-- what is known of each cell of all tables: its truth and its number of records
abbrev pub known_in : Inputs → List KnownCell
known_in inputs =
    map (λ name. record { truth = truth_in inputs name; freq = freq inputs.records.trees name inputs.records.rows })
    (cells inputs)

-- what statements are held against
abbrev pub basis_in : Inputs → Basis
basis_in inputs =
    record { trees = inputs.records.trees; tables = inputs.described.bound.tables; known = known_in inputs }

-- the line of the job that names a table's a priori file, where there is one
abbrev pub prior_line : ℕ → List PriorLine → Option PriorLine
prior_line t [] = None
prior_line t (line ∷ lines) = if line.table == t then Some line else prior_line t lines

-- what is stated, with these bytes of a table's a priori file, or the first fault of the file
abbrev pub with_bytes : Inputs → ℕ → PriorLine → List Prior → List ℕ → Result (List Prior) Fault
with_bytes inputs t line priors bytes =
    map_fault prior_fault (file_says (basis_in inputs) t line.separator inputs.described.bound.decimals priors bytes)

-- what is stated, with a table's a priori file, where it has one, or the first fault of the file
unfoldable pub with_file : Files → Inputs → ℕ → Option PriorLine → List Prior → Result (List Prior) Fault
with_file files inputs t None priors = Ok priors
with_file files inputs t (Some line) priors = do
  bytes ← bytes_of_file files line.file (file.Apriori t)
  with_bytes inputs t line priors bytes

-- what the a priori files of the first so many tables state of each cell, or the first fault of one of them
unfoldable pub with_files : Files → Inputs → ℕ → Result (List Prior) Fault
with_files files inputs zero = Ok (replicate (length (cells inputs)) empty_prior)
with_files files inputs (suc t) = do
  stated ← with_files files inputs t
  with_file files inputs t (prior_line t inputs.described.job.priors) stated

-- what those of all tables state
abbrev pub priors_of : Files → Inputs → Result (List Prior) Fault
priors_of files inputs = with_files files inputs (length inputs.described.job.tables)
