-- The order of the faults that binding a job looks for: by line, and within a line by kind (own).
use Rattle.std.specs.Prelude.{◌≡◌, ◌⊎◌, ℕ, ◌<◌, ◌≤◌, Bool, true, false, ◌||◌, List, [], ◌∷◌, ◌++◌, map, Option, None, Some, Err}
use Rattle.std.specs.List.{AllByRecursion, list_any}
use Rattle.rda_meta.specs.declared.meta.Meta.{Meta}
use Rattle.rda_meta.specs.declared.meta.Variable.{Variable}
use Rattle.job_lang.specs.declared.faults.JobWhy.{JobWhy}
use Rattle.job_lang.specs.declared.faults.JobWhy.TheVariants.{NoSuchVariable, NotSpanning, NotNumeric}
use Rattle.job_lang.specs.declared.job.Job.{Job}
use Rattle.job_lang.specs.declared.job.OutputLine.{OutputLine}
use Rattle.job_lang.specs.declared.job.TableLine.{TableLine}
use Rattle.job_lang.specs.Binding.{bound_of}
use Rattle.job_lang.specs.BindingFaults.{is_absent, is_numeric, table_fault, weight_fault, file_fault}

-- the line of a contributors' file, where there is one, with the fault that it has
abbrev pub contributors_at : Job → List Variable → Option OutputLine → List (ℕ × Option JobWhy)
contributors_at job variables None = []
contributors_at job variables (Some o) = (o.line, file_fault job.tables variables o.file) ∷ []

-- the lines of a job at which binding looks, each with the fault that it has
abbrev pub looked_at : Job → List Variable → List (ℕ × Option JobWhy)
looked_at job variables =
    map (λ t. (t.line, table_fault variables t)) job.tables
    ++ ((job.rules_line, weight_fault variables job.rules)
    ∷ map (λ o. (o.line, file_fault job.tables variables o.file)) job.outputs
    ++ (job.certificate_line, file_fault job.tables variables job.certificate)
    ∷ contributors_at job variables job.contributors)

-- a line has no fault, or stands behind this one
abbrev pub IsBehind : ℕ → ℕ → Option JobWhy → Type 0
IsBehind line other None = Unit {0}
IsBehind line other (Some why) = line < other

-- a line has no fault, or doesn't stand before this one
abbrev pub IsNotBefore : ℕ → ℕ → Option JobWhy → Type 0
IsNotBefore line other None = Unit {0}
IsNotBefore line other (Some why) = line ≤ other

-- The first of some lines that has a fault and before which no line has one. Were two parts of a job in one line, it
-- would be the first of them.
pub record IsEarliest (lines : List (ℕ × Option JobWhy)) (line : ℕ) (why : JobWhy) : Type 0 where
  pub before : List (ℕ × Option JobWhy)
  pub after : List (ℕ × Option JobWhy)
  pub cut : lines ≡ before ++ (line, Some why) ∷ after
  pub behind : AllByRecursion (λ other. IsBehind line other.0 other.1) before
  pub not_before : AllByRecursion (λ other. IsNotBefore line other.0 other.1) after

-- The fault that binding gives is that of the earliest line that has one.
abbrev pub GivesEarliest : Type 0
GivesEarliest =
    (job : Job) (meta : Meta) (line : ℕ) (why : JobWhy) → bound_of job meta ≡ Err (line, why)
    → IsEarliest (looked_at job meta.variables) line why

-- a table names something that is no variable
abbrev pub lacks_variable : List Variable → TableLine → Bool
lacks_variable variables table =
    list_any (λ name. is_absent variables name) table.variables || is_absent variables table.response

-- a numeric variable spans a table
abbrev pub has_numeric : List Variable → TableLine → Bool
has_numeric variables table = list_any (λ name. is_numeric variables name) table.variables

-- a table names no such variable; or all are there and a numeric one spans it; or none does and its response isn't
-- numeric
abbrev pub IsFirstKind : List Variable → TableLine → JobWhy → Type 0
IsFirstKind variables table why =
    ((why ≡ NoSuchVariable) × (lacks_variable variables table ≡ true))
    ⊎ ((why ≡ NotSpanning) × (lacks_variable variables table ≡ false) × (has_numeric variables table ≡ true))
    ⊎ ((why ≡ NotNumeric) × (lacks_variable variables table ≡ false) × (has_numeric variables table ≡ false)
    × (is_numeric variables table.response ≡ false))

-- Of a table's line the first kind of fault is given, in this order.
abbrev pub GivesFirstKind : Type 0
GivesFirstKind =
    (variables : List Variable) (table : TableLine) (why : JobWhy) → table_fault variables table ≡ Some why
    → IsFirstKind variables table why
