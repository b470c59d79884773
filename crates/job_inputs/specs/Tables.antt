-- The tables that were put under the names of a job, and the names of their first lines (own).
use Rattle.std.specs.Prelude.{◌≡◌, ℕ, ◌+◌, List, [], ◌∷◌, ◌++◌, take, slice_get, Some, Result, Ok, IsOk}
use Rattle.sdc_base.specs.Steps.{◌>>=◌}
use Rattle.office_io.specs.Files.{Files}
use Rattle.job_lang.specs.declared.job.Job.{Job}
use Rattle.job_lang.specs.declared.job.OutputLine.{OutputLine}
use Rattle.job_lang.specs.declared.job.TableLine.{TableLine}
use Rattle.job_inputs.specs.ReadFiles.{bytes_of_file}
use Rattle.job_inputs.specs.declared.file_ref.FileRef.{FileRef}
use Rattle.job_inputs.specs.declared.file_ref.FileRef.TheVariants as file
use Rattle.job_inputs.specs.declared.faults.Fault.{Fault}

-- the names of a table's first line: those of its variables and of the response
abbrev pub names_of : TableLine → List (List ℕ)
names_of line = line.variables ++ line.response ∷ []

-- the bytes of the files of these outputs, the first of which is that of table t, or the first fault of one of them
unfoldable pub tables_from : Files → ℕ → List OutputLine → Result (List (List ℕ)) Fault
tables_from files t [] = Ok []
tables_from files t (output ∷ outputs) = do
  bytes ← bytes_of_file files output.file (file.Table t)
  tables ← tables_from files (t + 1) outputs
  Ok (bytes ∷ tables)

-- the bytes of the tables that stand under the names of a job's outputs, or the first fault of one of them
abbrev pub tables_of : Files → Job → Result (List (List ℕ)) Fault
tables_of files job = tables_from files 0 job.outputs

-- the tables before this one have no fault, and its output has this name
pub record TablesComeTo (files : Files) (job : Job) (t : ℕ) (held : List ℕ) : Type 0 where
  pub output : OutputLine
  pub stands : slice_get job.outputs t ≡ Some output
  pub before : IsOk (tables_from files 0 (take t job.outputs))
  pub names : held ≡ output.file

-- the tables of a job are read up to this one, which has this name, and those before it have no fault
abbrev pub ComesToTables : Files → Job → FileRef → List ℕ → Type 0
ComesToTables files job f held = (t : ℕ) × (f ≡ file.Table t) × TablesComeTo files job t held
