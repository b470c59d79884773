-- The argument of each command: what it says, or BadValue (tau-ARGUS user manual; ranges, COST, STEPS, NODES and
-- DEPTH own).
use Rattle.std.specs.Prelude.{ℕ, ◌^◌, Bool, not, ◌==◌, ◌||◌, codes, if◌then◌else◌, List, [], ◌∷◌, Option, None, Some, Result, Ok}
use Rattle.std.specs.Char.{is_ascii_digit}
use Rattle.std.specs.Str.{str_eq_ignore_ascii_case}
use Rattle.cost_rule.specs.declared.kind.CostKind.{CostKind}
use Rattle.cost_rule.specs.declared.kind.CostKind.TheVariants as kind
use Rattle.sdc_base.specs.Blanks.{is_blank}
use Rattle.sdc_base.specs.CutTrees.{whole_depth}
use Rattle.sdc_base.specs.Numbers.{is_point}
use Rattle.sdc_base.specs.Steps.{◌>>=◌, or_fault, refuse}
use Rattle.sdc_base.specs.Tokens.{is_quote, is_file_name}
use Rattle.job_lang.specs.declared.faults.JobWhy.{JobWhy}
use Rattle.job_lang.specs.declared.faults.JobWhy.TheVariants.{BadValue}
use Rattle.job_lang.specs.declared.statement.Keyword.{Keyword}
use Rattle.job_lang.specs.declared.statement.Keyword.TheVariants.{OpenMicrodata, OpenMetadata, SpecifyTable, SafetyRule, ReadMicrodata, Apriori, Cost, Steps, Nodes, Suppress, WriteTable, Certificate, Contributors, Depth}
use Rattle.job_lang.specs.declared.statement.Instruction.{Instruction}
use Rattle.job_lang.specs.declared.statement.Instruction.TheVariants as said
use Rattle.job_lang.specs.LineTokens.{behind_mark, quoted_at, run_of, behind_run, number_at, digits_at, end_of_tokens, closing_token}
use Rattle.job_lang.specs.RuleTexts.{rules_in}
use Rattle.job_lang.specs.TableTexts.{table_argument}
use Rattle.job_lang.specs.MethodTexts.{method_argument}

-- a file name in quotes is the next token; it, and what stands behind it
unfoldable pub file_at : List ℕ → Result (List ℕ × List ℕ) JobWhy
file_at text = do
  name ← quoted_at text
  fine ← refuse BadValue (not (is_file_name name.0))
  Ok name

-- a file name in quotes, and nothing behind it
unfoldable pub only_file : List ℕ → Result (List ℕ) JobWhy
only_file text = do
  name ← file_at text
  end ← end_of_tokens name.1
  Ok name.0

-- a byte that may separate fields: no digit, point, quote, blank or CR
abbrev pub may_separate : ℕ → Bool
may_separate b = not (is_ascii_digit b || is_point b || is_quote b || is_blank b || (b == 13))

-- one byte that may separate fields
abbrev pub separator_of : List ℕ → Option ℕ
separator_of [] = None
separator_of (b ∷ []) = if may_separate b then Some b else None
separator_of (b ∷ c ∷ word) = None

-- "name", the number of a table, and the separator in quotes
unfoldable pub prior_argument : List ℕ → Result Instruction JobWhy
prior_argument text = do
  file ← file_at text
  comma ← behind_mark 44 file.1
  number ← digits_at comma
  again ← behind_mark 44 number.1
  word ← quoted_at again
  separator ← or_fault BadValue (separator_of word.0)
  end ← end_of_tokens word.1
  Ok (said.Prior file.0 number.0 separator)

-- (t,"name"): the number of a table and the file that it is put in
unfoldable pub output_argument : List ℕ → Result Instruction JobWhy
output_argument text = do
  open_ ← behind_mark 40 text
  number ← digits_at open_
  comma ← behind_mark 44 number.1
  file ← file_at comma
  end ← closing_token file.1
  Ok (said.Output number.0 file.0)

-- (t,"variable",n): the number of a table, a variable, and the depth to which the table takes its tree, 1 to 9
unfoldable pub depth_argument : List ℕ → Result Instruction JobWhy
depth_argument text = do
  open_ ← behind_mark 40 text
  number ← digits_at open_
  comma ← behind_mark 44 number.1
  variable ← quoted_at comma
  again ← behind_mark 44 variable.1
  depth ← number_at 1 whole_depth again
  end ← closing_token depth.1
  Ok (said.Depth number.0 variable.0 depth.0)

-- the kind of cost of this word, in letters of any case
unfoldable pub cost_of : List ℕ → Option CostKind
cost_of word =
    if str_eq_ignore_ascii_case word (codes "VALUE") then Some kind.Value
    else if str_eq_ignore_ascii_case word (codes "FREQ") then Some kind.Freq
    else if str_eq_ignore_ascii_case word (codes "UNIT") then Some kind.One
    else None

-- VALUE, FREQ or UNIT
unfoldable pub cost_argument : List ℕ → Result CostKind JobWhy
cost_argument text = do
  cost ← or_fault BadValue (cost_of (run_of text))
  end ← end_of_tokens (behind_run text)
  Ok cost

-- the greatest number of steps or nodes
abbrev pub most_work : ℕ
most_work = 10 ^ 12

-- a number of steps or nodes, from 1
unfoldable pub work_argument : List ℕ → Result ℕ JobWhy
work_argument text = do
  number ← number_at 1 most_work text
  end ← end_of_tokens number.1
  Ok number.0

-- what the text behind a command says
unfoldable pub argument_of : Keyword → List ℕ → Result Instruction JobWhy
argument_of OpenMicrodata text = only_file text >>= λ name. Ok (said.Microdata name)
argument_of OpenMetadata text = only_file text >>= λ name. Ok (said.Metadata name)
argument_of SpecifyTable text = table_argument text
argument_of SafetyRule text = rules_in text >>= λ rules. Ok (said.Safety rules)
argument_of ReadMicrodata text = end_of_tokens text >>= λ end. Ok said.Read
argument_of Apriori text = prior_argument text
argument_of Cost text = cost_argument text >>= λ cost. Ok (said.Cost cost)
argument_of Steps text = work_argument text >>= λ steps. Ok (said.Steps steps)
argument_of Nodes text = work_argument text >>= λ nodes. Ok (said.Nodes nodes)
argument_of Suppress text = method_argument text >>= λ method. Ok (said.Suppress method)
argument_of WriteTable text = output_argument text
argument_of Certificate text = only_file text >>= λ name. Ok (said.Certificate name)
argument_of Contributors text = only_file text >>= λ name. Ok (said.Contributors name)
argument_of Depth text = depth_argument text
