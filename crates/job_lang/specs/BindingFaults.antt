-- What is wrong with a job's variables: the earliest fault by its line (own).
use Rattle.std.specs.Prelude.{ℕ, Bool, false, not, ◌&&◌, ◌||◌, nat_lt, if◌then◌else◌, List, fold, Option, None, Some}
use Rattle.std.specs.List.{list_any}
use Rattle.std.specs.Str.{bytes_eq}
use Rattle.sdc_base.specs.declared.rule.Rules.{Rules}
use Rattle.rda_meta.specs.declared.meta.Shape.{Shape}
use Rattle.rda_meta.specs.declared.meta.Shape.TheVariants as shape
use Rattle.rda_meta.specs.declared.meta.Variable.{Variable}
use Rattle.job_lang.specs.declared.faults.JobWhy.{JobWhy}
use Rattle.job_lang.specs.declared.faults.JobWhy.TheVariants.{SameName, NoSuchVariable, NotSpanning, NotNumeric, NoWeight}
use Rattle.job_lang.specs.declared.job.Job.{Job}
use Rattle.job_lang.specs.declared.job.OutputLine.{OutputLine}
use Rattle.job_lang.specs.declared.job.TableLine.{TableLine}

-- the variable has this name, byte for byte
abbrev pub is_named : List ℕ → Variable → Bool
is_named name variable = bytes_eq variable.name name

-- no variable has this name
abbrev pub is_absent : List Variable → List ℕ → Bool
is_absent variables name = not (list_any (λ v. is_named name v) variables)

-- the variable has this name and is numeric
abbrev pub is_numeric_named : List ℕ → Variable → Bool
is_numeric_named name variable = is_named name variable && variable.numeric

-- a numeric variable has this name
abbrev pub is_numeric : List Variable → List ℕ → Bool
is_numeric variables name = list_any (λ v. is_numeric_named name v) variables

-- The fault of a table's line: a name of no variable, a numeric variable that spans it, or a response that isn't
-- numeric; each over the whole line.
abbrev pub table_fault : List Variable → TableLine → Option JobWhy
table_fault variables table =
    if list_any (λ name. is_absent variables name) table.variables || is_absent variables table.response
    then Some NoSuchVariable
    else if list_any (λ name. is_numeric variables name) table.variables then Some NotSpanning
    else if not (is_numeric variables table.response) then Some NotNumeric
    else None

-- the fault of the rules' line: records have weights, and no variable is the weight
abbrev pub weight_fault : List Variable → Rules → Option JobWhy
weight_fault variables rules =
    if rules.weighted && not (list_any (λ v. v.weight) variables) then Some NoWeight else None

-- some table is spanned by the variable of this name
abbrev pub is_spanning : List TableLine → List ℕ → Bool
is_spanning tables name = list_any (λ t. list_any (λ n. bytes_eq n name) t.variables) tables

-- the list of codes has this name
abbrev pub is_code_list : List ℕ → Option (List ℕ) → Bool
is_code_list file None = false
is_code_list file (Some name) = bytes_eq name file

-- the hierarchy file has this name
abbrev pub is_hierarchy_file : List ℕ → Shape → Bool
is_hierarchy_file file (shape.Listed name lead) = bytes_eq name file
is_hierarchy_file file other = false

-- the metadata name this file for a spanning variable
abbrev pub is_file_of : List TableLine → List ℕ → Variable → Bool
is_file_of tables file v = is_spanning tables v.name && (is_code_list file v.codes || is_hierarchy_file file v.shape)

-- the fault of a line that puts a file: the metadata name that file for a spanning variable
abbrev pub file_fault : List TableLine → List Variable → List ℕ → Option JobWhy
file_fault tables variables file = if list_any (λ v. is_file_of tables file v) variables then Some SameName else None

-- the earlier of two faults, the first where both stand at one line
abbrev pub earlier_fault : Option (ℕ × JobWhy) → ℕ → Option JobWhy → Option (ℕ × JobWhy)
earlier_fault first line None = first
earlier_fault None line (Some why) = Some (line, why)
earlier_fault (Some first) line (Some why) = if nat_lt line first.0 then Some (line, why) else Some first

-- the earliest fault of tables
abbrev pub tables_fault : List Variable → List TableLine → Option (ℕ × JobWhy)
tables_fault variables tables = fold (λ first t. earlier_fault first t.line (table_fault variables t)) None tables

-- the earliest fault of outputs, and of what was looked at before
abbrev pub outputs_fault : List TableLine → List Variable → Option (ℕ × JobWhy) → List OutputLine → Option (ℕ × JobWhy)
outputs_fault tables variables first outputs =
    fold (λ first o. earlier_fault first o.line (file_fault tables variables o.file)) first outputs

-- the earliest fault of a contributors' file, where there is one, and of what was looked at before
abbrev pub contributors_fault : List TableLine → List Variable → Option (ℕ × JobWhy) → Option OutputLine
    → Option (ℕ × JobWhy)
contributors_fault tables variables first None = first
contributors_fault tables variables first (Some o) = earlier_fault first o.line (file_fault tables variables o.file)

-- the earliest fault of a job's lines: tables, rules, outputs, certificate and contributors' file
abbrev pub earliest_fault : Job → List Variable → Option (ℕ × JobWhy)
earliest_fault job variables =
    contributors_fault job.tables variables
    (earlier_fault (outputs_fault job.tables variables
    (earlier_fault (tables_fault variables job.tables) job.rules_line (weight_fault variables job.rules))
    job.outputs)
    job.certificate_line (file_fault job.tables variables job.certificate))
    job.contributors
