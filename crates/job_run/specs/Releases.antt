-- What a release of settled inputs puts, and its numbers (own).
use Rattle.std.specs.Prelude.{ℕ, ◌+◌, Bool, false, List, [], ◌∷◌, length, filter, slice_get, slice_index_or, if◌then◌else◌, Option, None, Some, ℤ}
use Rattle.std.specs.Option.{option_and_then, option_map_or}
use Rattle.sdc_base.specs.HiddenSets.{is_hidden}
use Rattle.sdc_base.specs.Kinds.{is_primary}
use Rattle.sdc_base.specs.Records.{Name}
use Rattle.sdc_base.specs.Relations.{number_among}
use Rattle.sdc_base.specs.TableText.{table_text}
use Rattle.certificate.specs.Texts.{text_of}
use Rattle.certificate.specs.declared.certificate.Certificate.{Certificate}
use Rattle.job_lang.specs.declared.job.OutputLine.{OutputLine}
use Rattle.job_lang.specs.declared.job.TableLine.{TableLine}
use Rattle.job_inputs.specs.Cells.{cells, truth_in}
use Rattle.job_inputs.specs.ClassifiedJobs.{SettledInputs}
use Rattle.job_inputs.specs.Tables.{names_of}
use Rattle.job_inputs.specs.declared.file_ref.FileRef.TheVariants as file
use Rattle.job_inputs.specs.declared.inputs.Inputs.{Inputs}
use Rattle.job_run.specs.declared.put.FilePut.{FilePut}
use Rattle.job_run.specs.declared.report.Summary.{Summary}

-- ---- what cells show

-- the cell with this name is hidden, by a flag for each cell
abbrev pub is_hidden_in : Inputs → List Bool → Name → Bool
is_hidden_in inputs flags name = option_map_or (is_hidden flags) (number_among (cells inputs) name) false

-- what every table of a suppressed release shows for the cell with this name: its truth over the records, unless it is
-- hidden
abbrev pub shown_in : Inputs → List Bool → Name → Option ℤ
shown_in inputs flags name = if is_hidden_in inputs flags name then None else Some (truth_in inputs name)

-- what every table of a rounded release shows for the cell with this name: the value with its number
abbrev pub value_in : Inputs → List ℤ → Name → Option ℤ
value_in inputs values name = option_and_then (slice_get values) (number_among (cells inputs) name)

-- ---- tables

-- the text of table t, where cells show this by their names, and its first line has these names
abbrev pub table_of : Inputs → (Name → Option ℤ) → ℕ → List (List ℕ) → List ℕ
table_of inputs shown t header =
    table_text inputs.records.trees (slice_index_or inputs.described.bound.tables t []) header
    inputs.described.bound.decimals shown

-- ---- what is put

-- a table with its line of the job and its output
abbrev pub put_of_table : Inputs → (Name → Option ℤ) → ℕ → TableLine → OutputLine → FilePut
put_of_table inputs shown t line output =
    record { file = file.Table t; name = output.file; bytes = table_of inputs shown t (names_of line) }

-- the tables from number t on, each with its line of the job and its output
abbrev pub tables_from : Inputs → (Name → Option ℤ) → ℕ → List TableLine → List OutputLine → List FilePut
tables_from inputs shown t [] outputs = []
tables_from inputs shown t (line ∷ lines) [] = []
tables_from inputs shown t (line ∷ lines) (output ∷ outputs) =
    put_of_table inputs shown t line output ∷ tables_from inputs shown (t + 1) lines outputs

-- what is put: first the certificate, then the tables in the order of the job
abbrev pub puts_of : Inputs → (Name → Option ℤ) → Certificate → List FilePut
puts_of inputs shown certificate =
    record { file = file.Certificate; name = inputs.described.job.certificate; bytes = text_of certificate }
    ∷ tables_from inputs shown 0 inputs.described.job.tables inputs.described.job.outputs

-- the numbers of a release in which so many cells are hidden
abbrev pub summary_of : SettledInputs → ℕ → Summary
summary_of settled hidden = record {
  records = length settled.inputs.records.rows;
  skipped = settled.inputs.records.skipped;
  passed_over = settled.inputs.described.meta.passed_over;
  cells = length (cells settled.inputs);
  primary = length (filter (λ cell. is_primary cell.kind) settled.cells);
  hidden = hidden;
}
