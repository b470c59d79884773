-- Which jobs have a canonical text, and the law that it is read as that job (own).
use Rattle.std.specs.Prelude.{◌≡◌, ◌≢◌, ◌==◌, ℕ, ◌<◌, ◌≤◌, Bool, true, false, ◌&&◌, List, ◌++◌, length, map, Ok}
use Rattle.std.specs.List.{AllByRecursion, IsDistinct, list_any, count_by}
use Rattle.std.specs.Str.{bytes_eq}
use Rattle.sdc_base.specs.Blanks.{trim}
use Rattle.sdc_base.specs.Lines.{is_line_feed, IsLine, HasNoFeed}
use Rattle.sdc_base.specs.Tokens.{is_quote, is_file_name}
use Rattle.sdc_base.specs.declared.rule.Rule.{Rule}
use Rattle.sdc_base.specs.declared.rule.Rule.TheVariants.{Freq, Zero}
use Rattle.sdc_base.specs.CutTrees.{whole_depth}
use Rattle.job_lang.specs.declared.job.DepthLine.{DepthLine}
use Rattle.job_lang.specs.declared.job.Job.{Job}
use Rattle.job_lang.specs.declared.job.PriorLine.{PriorLine}
use Rattle.job_lang.specs.declared.job.TableLine.{TableLine}
use Rattle.job_lang.specs.declared.statement.Instruction.{Instruction}
use Rattle.job_lang.specs.declared.statement.Instruction.TheVariants as said
use Rattle.job_lang.specs.Arguments.{may_separate}
use Rattle.job_lang.specs.JobLimits.{IsJob, IsWork, IsMethod, AreInRange}
use Rattle.job_lang.specs.Jobs.{job_of}
use Rattle.job_lang.specs.Meaning.{line_says}
use Rattle.job_lang.specs.FileLaws.{puts_of, reads_of}
use Rattle.job_lang.specs.Spelling.{table_number, said_line}
use Rattle.job_lang.specs.TableTexts.{most_variables}
use Rattle.job_lang.specs.JobText.{job_text, in_text}

-- a rule on frequencies
abbrev pub is_on_frequencies : Rule → Bool
is_on_frequencies (Freq n r) = true
is_on_frequencies rule = false

-- a rule on zeros
abbrev pub is_on_zeros : Rule → Bool
is_on_zeros (Zero r) = true
is_on_zeros rule = false

-- at most one rule is on frequencies, and at most one on zeros
pub record HasEachOnce (rules : List Rule) : Type 0 where
  pub frequencies : count_by is_on_frequencies rules ≤ 1
  pub zeros : count_by is_on_zeros rules ≤ 1

-- a name that can stand between quotes in a line: neither a quote nor LF in it
abbrev pub IsQuotable : List ℕ → Type 0
IsQuotable name = (list_any is_quote name ≡ false) × HasNoFeed name

-- the names of a table can
abbrev pub HasQuotable : TableLine → Type 0
HasQuotable table = AllByRecursion IsQuotable table.variables × IsQuotable table.response

-- the byte between the fields of an a priori file may separate fields, and isn't LF
abbrev pub HasSeparator : PriorLine → Type 0
HasSeparator prior = (may_separate prior.separator ≡ true) × (is_line_feed prior.separator ≡ false)

-- What a line can say in the canonical text: the limits of what is said, names of files, names that can be written, and
-- the number of a table, which are at most 8.
abbrev pub IsSpellable : Instruction → Type 0
IsSpellable (said.Microdata name) = is_file_name name ≡ true
IsSpellable (said.Metadata name) = is_file_name name ≡ true
IsSpellable (said.Table variables response) = (0 < length variables) × (length variables ≤ most_variables)
    × IsDistinct bytes_eq variables × AllByRecursion IsQuotable variables × IsQuotable response
IsSpellable (said.Safety rules) = AreInRange rules × HasEachOnce rules.list
IsSpellable said.Read = Unit {0}
IsSpellable (said.Prior file number separator) =
    (place : ℕ) × (place < 8) × (number ≡ table_number place) × (is_file_name file ≡ true)
    × (may_separate separator ≡ true) × (is_line_feed separator ≡ false)
IsSpellable (said.Cost cost) = Unit {0}
IsSpellable (said.Steps steps) = IsWork steps
IsSpellable (said.Nodes nodes) = IsWork nodes
IsSpellable (said.Suppress method) = IsMethod method
IsSpellable (said.Output number file) = (place : ℕ) × (place < 8) × (number ≡ table_number place)
    × (is_file_name file ≡ true)
IsSpellable (said.Certificate name) = is_file_name name ≡ true
IsSpellable (said.Contributors name) = is_file_name name ≡ true
IsSpellable (said.Depth number variable depth) = (place : ℕ) × (place < 8) × (number ≡ table_number place)
    × IsQuotable variable × (1 ≤ depth) × (depth ≤ whole_depth)

-- A line of the canonical text is read as what it is the line of, without blanks at its ends, LF in it or CR at its
-- end.
abbrev pub LinesAreRead : Type 0
LinesAreRead =
    (one : Instruction) → IsSpellable one → (line_says (said_line one) ≡ Ok one) × (trim (said_line one) ≡ said_line one)
    × IsLine (said_line one)

-- both are depths of one variable in one table
abbrev pub is_same_depth : DepthLine → DepthLine → Bool
is_same_depth one other = (one.table == other.table) && bytes_eq one.variable other.variable

-- A job within its limits whose names can be written, with at most one rule on frequencies, one on zeros, one a
-- priori file for each table and one depth for each table and variable, and whose files are told apart: each that is put from all others.
pub record IsWritable (job : Job) : Type 0 where
  pub limits : IsJob job
  pub rules : HasEachOnce job.rules.list
  pub names : AllByRecursion HasQuotable job.tables
  pub separators : AllByRecursion HasSeparator job.priors
  pub priors : IsDistinct ◌==◌ (map (λ p. p.table) job.priors)
  pub depths : IsDistinct is_same_depth job.depths
  pub files : AllByRecursion (λ name. is_file_name name ≡ true) (reads_of job ++ puts_of job)
  pub puts : IsDistinct bytes_eq (puts_of job)
  pub apart : AllByRecursion (λ put. AllByRecursion (λ read. put ≢ read) (reads_of job)) (puts_of job)

-- The canonical text of a job is read as that job, with the lines of the text.
abbrev pub TextIsRead : Type 0
TextIsRead = (job : Job) → IsWritable job → job_of (job_text job) ≡ Ok (in_text job)

-- The canonical text of a job that has the lines of that text is read as that job.
abbrev pub IsRoundTrip : Type 0
IsRoundTrip = (job : Job) → IsWritable job → in_text job ≡ job → job_of (job_text job) ≡ Ok job

-- Each job that is read has a canonical text.
abbrev pub JobsAreWritable : Type 0
JobsAreWritable = (bytes : List ℕ) (job : Job) → job_of bytes ≡ Ok job → IsWritable job

-- So each job that is read is read again from its canonical text, but for the numbers of its lines.
abbrev pub JobsAreReadAgain : Type 0
JobsAreReadAgain = (bytes : List ℕ) (job : Job) → job_of bytes ≡ Ok job → job_of (job_text job) ≡ Ok (in_text job)
