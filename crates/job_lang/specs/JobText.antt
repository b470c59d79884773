-- The canonical text of a job: a line for each command, in the order of the table of commands (own).
use Rattle.std.specs.Prelude.{ℕ, ◌+◌, List, [], ◌∷◌, ◌++◌, length, map, Option, None, Some, option_map}
use Rattle.sdc_base.specs.Lines.{text_of_lines}
use Rattle.job_lang.specs.declared.job.DepthLine.{DepthLine}
use Rattle.job_lang.specs.declared.job.Job.{Job}
use Rattle.job_lang.specs.declared.job.OutputLine.{OutputLine}
use Rattle.job_lang.specs.declared.job.PriorLine.{PriorLine}
use Rattle.job_lang.specs.declared.job.TableLine.{TableLine}
use Rattle.job_lang.specs.declared.statement.Instruction.{Instruction}
use Rattle.job_lang.specs.declared.statement.Instruction.TheVariants as said
use Rattle.job_lang.specs.Spelling.{table_number, said_line}

-- ---- the text

-- a table
abbrev pub table_said : TableLine → Instruction
table_said table = said.Table table.variables table.response

-- an a priori file
abbrev pub prior_said : PriorLine → Instruction
prior_said prior = said.Prior prior.file (table_number prior.table) prior.separator

-- the outputs of the tables from this place on
abbrev pub outputs_said : ℕ → List OutputLine → List Instruction
outputs_said place [] = []
outputs_said place (output ∷ outputs) = said.Output (table_number place) output.file ∷ outputs_said (place + 1) outputs

-- the contributors' file, where there is one
abbrev pub contributors_said : Option OutputLine → List Instruction
contributors_said None = []
contributors_said (Some output) = said.Contributors output.file ∷ []

-- the depth of a variable in a table
abbrev pub depth_said : DepthLine → Instruction
depth_said line = said.Depth (table_number line.table) line.variable line.depth

-- all that a job says
abbrev pub job_says : Job → List Instruction
job_says job =
    said.Microdata job.micro ∷ said.Metadata job.meta ∷ map table_said job.tables
    ++ (said.Safety job.rules ∷ said.Read ∷ map prior_said job.priors
    ++ (said.Cost job.cost ∷ said.Steps job.steps ∷ said.Nodes job.nodes ∷ said.Suppress job.method
    ∷ outputs_said 0 job.outputs
    ++ said.Certificate job.certificate ∷ contributors_said job.contributors ++ map depth_said job.depths))

-- the canonical text of a job: its lines, each ended by LF
abbrev pub job_text : Job → List ℕ
job_text job = text_of_lines (map said_line (job_says job))

-- ---- the lines of that text

-- tables in one line after the other from this one on
abbrev pub tables_from : ℕ → List TableLine → List TableLine
tables_from line [] = []
tables_from line (table ∷ tables) = record table { line = line } ∷ tables_from (line + 1) tables

-- a priori files in one line after the other from this one on
abbrev pub priors_from : ℕ → List PriorLine → List PriorLine
priors_from line [] = []
priors_from line (prior ∷ priors) = record prior { line = line } ∷ priors_from (line + 1) priors

-- outputs in one line after the other from this one on
abbrev pub outputs_at : ℕ → List OutputLine → List OutputLine
outputs_at line [] = []
outputs_at line (output ∷ outputs) = record output { line = line } ∷ outputs_at (line + 1) outputs

-- depths in one line after the other from this one on
abbrev pub depths_from : ℕ → List DepthLine → List DepthLine
depths_from line [] = []
depths_from line (depth ∷ depths) = record depth { line = line } ∷ depths_from (line + 1) depths

-- an output in this line, where there is one
abbrev pub output_at : ℕ → Option OutputLine → Option OutputLine
output_at line output = option_map (λ (one : OutputLine). record one { line = line }) output

-- the same job with the lines of its canonical text
abbrev pub in_text : Job → Job
in_text job = record job {
  tables = tables_from 3 job.tables;
  rules_line = 3 + length job.tables;
  priors = priors_from (5 + length job.tables) job.priors;
  outputs = outputs_at (9 + length job.tables + length job.priors) job.outputs;
  certificate_line = 9 + length job.tables + length job.priors + length job.outputs;
  contributors = output_at (10 + length job.tables + length job.priors + length job.outputs) job.contributors;
  depths = depths_from
      (10 + length job.tables + length job.priors + length job.outputs + length (contributors_said job.contributors)) job.depths;
}
