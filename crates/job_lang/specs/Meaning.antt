-- What the lines of a text say, each by itself, and what a job then has of them (own).
use Rattle.std.specs.Prelude.{◌≡◌, ◌⊎◌, ◌<◌, ℕ, ◌+◌, if◌then◌else◌, List, [], ◌∷◌, ◌++◌, filter, length, slice_get, Option, None, Some, Result, Ok, Err}
use Rattle.cost_rule.specs.declared.kind.CostKind.TheVariants.{Value}
use Rattle.sdc_base.specs.Blanks.{trim}
use Rattle.sdc_base.specs.Lines.{lines}
use Rattle.sdc_base.specs.Steps.{◌>>=◌, or_fault}
use Rattle.job_lang.specs.declared.faults.JobWhy.{JobWhy}
use Rattle.job_lang.specs.declared.faults.JobWhy.TheVariants.{UnknownCommand}
use Rattle.job_lang.specs.declared.job.Job.{Job}
use Rattle.job_lang.specs.declared.job.OutputLine.{OutputLine}
use Rattle.job_lang.specs.declared.job.TableLine.{TableLine}
use Rattle.job_lang.specs.declared.statement.Keyword.{Keyword}
use Rattle.job_lang.specs.declared.statement.Keyword.TheVariants as keyword
use Rattle.job_lang.specs.declared.statement.Instruction.{Instruction}
use Rattle.job_lang.specs.declared.statement.Instruction.TheVariants as said
use Rattle.job_lang.specs.declared.statement.Statement.{Statement}
use Rattle.job_lang.specs.Keywords.{keyword_of, word_in}
use Rattle.job_lang.specs.Arguments.{argument_of}
use Rattle.job_lang.specs.Statements.{is_by, is_passed_over}
use Rattle.job_lang.specs.ClosingLooks.{priors_in, depths_in, output_said, file_line}
use Rattle.job_lang.specs.Jobs.{job_of}

-- what a line says by itself
unfoldable pub line_says : List ℕ → Result Instruction JobWhy
line_says text = do
  word ← word_in text
  keyword ← or_fault UnknownCommand (keyword_of word.0)
  argument_of keyword word.1

-- that with the line's number, where it says something
abbrev pub said_at : ℕ → Result Instruction JobWhy → List Statement
said_at line (Ok one) = record { line = line; said = one } ∷ []
said_at line (Err why) = []

-- what a line states, unless it is passed over
abbrev pub statements_of_line : ℕ → List ℕ → List Statement
statements_of_line line text = if is_passed_over text then [] else said_at line (line_says text)

-- what all lines state, behind so many others
abbrev pub stated_in : ℕ → List (List ℕ) → List Statement
stated_in before [] = []
stated_in before (text ∷ texts) = statements_of_line (before + 1) (trim text) ++ stated_in (before + 1) texts

-- a table, where one is stated
abbrev pub table_in : ℕ → Instruction → List TableLine
table_in line (said.Table variables response) = record { line = line; variables = variables; response = response } ∷ []
table_in line one = []

-- the tables that are stated, in the order of their lines
abbrev pub tables_among : List Statement → List TableLine
tables_among [] = []
tables_among (s ∷ rest) = table_in s.line s.said ++ tables_among rest

-- what is stated but for a table
abbrev pub other_in : ℕ → Instruction → List Statement
other_in line (said.Table variables response) = []
other_in line one = record { line = line; said = one } ∷ []

-- all that is stated but for the tables
abbrev pub others_among : List Statement → List Statement
others_among [] = []
others_among (s ∷ rest) = other_in s.line s.said ++ others_among rest

-- all that a text's lines state but for the tables
abbrev pub others_in : List ℕ → List Statement
others_in bytes = others_among (stated_in 0 (lines bytes))

-- what is stated by this command
abbrev pub by_command : Keyword → List Statement → List Statement
by_command word all = filter (λ s. is_by word s.said) all

-- Exactly one line states something by this command, and it states this.
abbrev pub IsStatedOnce : Keyword → List Statement → Instruction → Type 0
IsStatedOnce word all one = (line : ℕ) × (by_command word all ≡ record { line = line; said = one } ∷ [])

-- Exactly one line does, and it states this; or no line does, and this is so.
abbrev pub IsStatedOrElse : Keyword → List Statement → Instruction → Type 0 → Type 0
IsStatedOrElse word all one Usual = IsStatedOnce word all one ⊎ ((by_command word all ≡ []) × Usual)

-- a contributors' file with its line, where there is one
abbrev pub contributors_lines : Option OutputLine → List Statement
contributors_lines None = []
contributors_lines (Some output) = record { line = output.line; said = said.Contributors output.file } ∷ []

-- A job has its tables in the order of their lines. Each other part is what exactly one line states, or the default
-- where no line states it; the a priori files and the depths are those of all lines; and each table's output is that of the first line
-- with its number.
pub record IsMeant (bytes : List ℕ) (job : Job) : Type 0 where
  pub tables : job.tables ≡ tables_among (stated_in 0 (lines bytes))
  pub micro : IsStatedOnce keyword.OpenMicrodata (others_in bytes) (said.Microdata job.micro)
  pub meta : IsStatedOnce keyword.OpenMetadata (others_in bytes) (said.Metadata job.meta)
  pub rules : by_command keyword.SafetyRule (others_in bytes)
      ≡ record { line = job.rules_line; said = said.Safety job.rules } ∷ []
  pub method : IsStatedOnce keyword.Suppress (others_in bytes) (said.Suppress job.method)
  pub certificate : by_command keyword.Certificate (others_in bytes)
      ≡ record { line = job.certificate_line; said = said.Certificate job.certificate } ∷ []
  pub contributors : by_command keyword.Contributors (others_in bytes) ≡ contributors_lines job.contributors
  pub cost : IsStatedOrElse keyword.Cost (others_in bytes) (said.Cost job.cost) (job.cost ≡ Value)
  pub steps : IsStatedOrElse keyword.Steps (others_in bytes) (said.Steps job.steps) (job.steps ≡ 100000)
  pub nodes : IsStatedOrElse keyword.Nodes (others_in bytes) (said.Nodes job.nodes) (job.nodes ≡ 1000000)
  pub priors : job.priors ≡ priors_in (others_in bytes)
  pub depths : job.depths ≡ depths_in (others_in bytes)
  pub outputs : (place : ℕ) → place < length job.tables
      → file_line (output_said place (others_in bytes)) ≡ slice_get job.outputs place

-- Each job that is read is what its lines state.
abbrev pub JobsAreMeant : Type 0
JobsAreMeant = (bytes : List ℕ) (job : Job) → job_of bytes ≡ Ok job → IsMeant bytes job
