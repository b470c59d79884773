-- What holds of a job that is read: the limits of its tables, rules and numbers (own).
use Rattle.std.specs.Prelude.{◌≡◌, ℕ, ◌<◌, ◌≤◌, ◌^◌, true, List, length, slice_get, pos, ◌≤ℤ◌, Option, Some}
use Rattle.std.specs.List.{AllByRecursion, IsDistinct}
use Rattle.std.specs.Set.{distinct_count}
use Rattle.std.specs.Str.{bytes_eq}
use Rattle.sdc_base.specs.declared.method.Method.{Method}
use Rattle.sdc_base.specs.declared.method.Method.TheVariants.{Gh, Modular, Rnd}
use Rattle.sdc_base.specs.declared.rule.Rule.{Rule}
use Rattle.sdc_base.specs.declared.rule.Rule.TheVariants.{Freq, Nk, Percent, Pq, Zero}
use Rattle.sdc_base.specs.declared.rule.Rules.{Rules}
use Rattle.sdc_base.specs.CutTrees.{whole_depth}
use Rattle.job_lang.specs.declared.job.DepthLine.{DepthLine}
use Rattle.job_lang.specs.declared.job.Job.{Job}
use Rattle.job_lang.specs.declared.job.OutputLine.{OutputLine}
use Rattle.job_lang.specs.declared.job.TableLine.{TableLine}
use Rattle.job_lang.specs.Statements.{names_in}
use Rattle.job_lang.specs.Binding.{response_of}
use Rattle.job_lang.specs.TableTexts.{most_variables}
use Rattle.job_lang.specs.SpannedDepths.{spans_table}

-- no variable stands twice in a table
abbrev pub HasNoTwice : TableLine → Type 0
HasNoTwice table = IsDistinct bytes_eq table.variables

-- What a job needs to be bound: tables of one response, each of distinct variables, which are at most 8 in all.
pub record AreTables (tables : List TableLine) : Type 0 where
  pub has_table : 0 < length tables
  pub response : AllByRecursion (λ t. t.response ≡ response_of tables) tables
  pub once : AllByRecursion HasNoTwice tables
  pub variables : distinct_count bytes_eq (names_in tables) ≤ 8

-- 1 to 6 variables
abbrev pub HasVariables : TableLine → Type 0
HasVariables table = (0 < length table.variables) × (length table.variables ≤ most_variables)

-- the numbers of a rule are in their ranges
abbrev pub IsInRange : Rule → Type 0
IsInRange (Freq n r) = (1 ≤ n) × (n ≤ 1000000) × (r ≤ 1000)
IsInRange (Nk n k) = (1 ≤ n) × (n ≤ 10) × (1 ≤ k) × (k ≤ 100)
IsInRange (Percent p) = (1 ≤ p) × (p ≤ 1000)
IsInRange (Pq p q) = (1 ≤ p) × (p ≤ 1000) × (1 ≤ q) × (q ≤ 1000)
IsInRange (Zero r) = (1 ≤ r) × (r ≤ 1000000000)

-- one to eight rules in their ranges
pub record AreInRange (rules : Rules) : Type 0 where
  pub has_rule : 0 < length rules.list
  pub at_most_8_rules : length rules.list ≤ 8
  pub ranges : AllByRecursion IsInRange rules.list
  pub man : rules.man ≤ 1000

-- the number of a method is in its range
abbrev pub IsMethod : Method → Type 0
IsMethod (Gh n) = (1 ≤ n) × (n ≤ 8)
IsMethod Modular = Unit {0}
IsMethod (Rnd base) = (pos 1 ≤ℤ base) × (base ≤ℤ pos 1000000000)

-- from 1 to 10^12
abbrev pub IsWork : ℕ → Type 0
IsWork n = (1 ≤ n) × (n ≤ 10 ^ 12)

-- a job that rounds has no contributors' file
abbrev pub CanHaveContributors : Method → Option OutputLine → Type 0
CanHaveContributors (Rnd base) (Some output) = ⊥
CanHaveContributors method contributors = Unit {0}

-- a depth from 1 to 9 of a variable that its table spans
pub record IsDepth (tables : List TableLine) (line : DepthLine) : Type 0 where
  pub table : line.table < length tables
  pub spanned : spans_table line.variable (slice_get tables line.table) ≡ true
  pub depth : (1 ≤ line.depth) × (line.depth ≤ whole_depth)

-- a job within all limits
pub record IsJob (job : Job) : Type 0 where
  pub tables : AreTables job.tables
  pub at_most_8_tables : length job.tables ≤ 8
  pub variables : AllByRecursion HasVariables job.tables
  pub outputs : length job.outputs ≡ length job.tables
  pub priors : AllByRecursion (λ prior. prior.table < length job.tables) job.priors
  pub rules : AreInRange job.rules
  pub method : IsMethod job.method
  pub steps : IsWork job.steps
  pub nodes : IsWork job.nodes
  pub contributors : CanHaveContributors job.method job.contributors
  pub depths : AllByRecursion (IsDepth job.tables) job.depths
