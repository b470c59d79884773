-- The commands of a job and their words (tau-ARGUS user manual; COST, STEPS, NODES, CERTIFICATE,
-- CONTRIBUTORS and DEPTH own).
use Rattle.std.specs.Prelude.{ℕ, Bool, not, ◌==◌, codes, if◌then◌else◌, List, [], ◌∷◌, length, Option, None, Some, Result, Ok, Err}
use Rattle.std.specs.List.{list_any, before_first, after_first}
use Rattle.std.specs.Str.{str_eq_ignore_ascii_case}
use Rattle.sdc_base.specs.Steps.{◌>>=◌, refuse}
use Rattle.sdc_base.specs.Tokens.{is_close}
use Rattle.job_lang.specs.declared.faults.JobWhy.{JobWhy}
use Rattle.job_lang.specs.declared.faults.JobWhy.TheVariants.{BadLine}
use denote.Enum.Bare.{sameb}
use Rattle.job_lang.specs.contracts.statement.Keyword.{the_type}
use Rattle.job_lang.specs.declared.statement.Keyword.{Keyword}
use Rattle.job_lang.specs.declared.statement.Keyword.TheVariants.{OpenMicrodata, OpenMetadata, SpecifyTable, SafetyRule, ReadMicrodata, Apriori, Cost, Steps, Nodes, Suppress, WriteTable, Certificate, Contributors, Depth}

-- the command of this word, in letters of any case
unfoldable pub keyword_of : List ℕ → Option Keyword
keyword_of word =
    if str_eq_ignore_ascii_case word (codes "OPENMICRODATA") then Some OpenMicrodata
    else if str_eq_ignore_ascii_case word (codes "OPENMETADATA") then Some OpenMetadata
    else if str_eq_ignore_ascii_case word (codes "SPECIFYTABLE") then Some SpecifyTable
    else if str_eq_ignore_ascii_case word (codes "SAFETYRULE") then Some SafetyRule
    else if str_eq_ignore_ascii_case word (codes "READMICRODATA") then Some ReadMicrodata
    else if str_eq_ignore_ascii_case word (codes "APRIORI") then Some Apriori
    else if str_eq_ignore_ascii_case word (codes "COST") then Some Cost
    else if str_eq_ignore_ascii_case word (codes "STEPS") then Some Steps
    else if str_eq_ignore_ascii_case word (codes "NODES") then Some Nodes
    else if str_eq_ignore_ascii_case word (codes "SUPPRESS") then Some Suppress
    else if str_eq_ignore_ascii_case word (codes "WRITETABLE") then Some WriteTable
    else if str_eq_ignore_ascii_case word (codes "CERTIFICATE") then Some Certificate
    else if str_eq_ignore_ascii_case word (codes "CONTRIBUTORS") then Some Contributors
    else if str_eq_ignore_ascii_case word (codes "DEPTH") then Some Depth
    else None

-- both are one command
abbrev pub same_keyword : Keyword → Keyword → Bool
same_keyword = sameb the_type

-- The word between < and the first >, and what stands behind it. A line without such a word is bad; blanks inside
-- belong to the word.
unfoldable pub word_in : List ℕ → Result (List ℕ × List ℕ) JobWhy
word_in [] = Err BadLine
word_in (b ∷ text) = do
  opened ← refuse BadLine (not (b == 60))
  closed ← refuse BadLine (not (list_any is_close text))
  some ← refuse BadLine (length (before_first is_close text) == 0)
  Ok (before_first is_close text, after_first is_close text)
