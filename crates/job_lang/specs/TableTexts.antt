-- The argument of SPECIFYTABLE: variables, response, and parts that say nothing more (tau-ARGUS user manual; profile
-- own).
use Rattle.std.specs.Prelude.{ℕ, zero, suc, Bool, not, ◌==◌, ◌&&◌, ◌||◌, nat_lt, if◌then◌else◌, List, [], ◌∷◌, length, Result, Ok, Err}
use Rattle.std.specs.List.{list_all}
use Rattle.std.specs.Set.{distinct_count}
use Rattle.std.specs.Str.{bytes_eq}
use Rattle.sdc_base.specs.Blanks.{trim}
use Rattle.sdc_base.specs.Steps.{◌>>=◌, refuse}
use Rattle.job_lang.specs.declared.faults.JobWhy.{JobWhy}
use Rattle.job_lang.specs.declared.faults.JobWhy.TheVariants.{BadValue}
use Rattle.job_lang.specs.declared.statement.Instruction.{Instruction}
use Rattle.job_lang.specs.declared.statement.Instruction.TheVariants as said
use Rattle.job_lang.specs.LineTokens.{is_next, behind_mark, quoted_at}
use Rattle.job_lang.specs.Pieces.{pieces}

-- the most variables that span a table
abbrev pub most_variables : ℕ
most_variables = 6

-- the words in quotes that stand next, at most so many, and what stands behind them
unfoldable pub names_up_to : ℕ → List ℕ → Result (List (List ℕ) × List ℕ) JobWhy
names_up_to zero text = Ok ([], text)
names_up_to (suc most) text = if is_next 34 text then (do
  name ← quoted_at text
  more ← names_up_to most name.1
  Ok (name.0 ∷ more.0, more.1)) else Ok ([], text)

-- some name stands twice
abbrev pub is_twice : List (List ℕ) → Bool
is_twice names = nat_lt (distinct_count bytes_eq names) (length names)

-- a bar and then a word in quotes
unfoldable pub quoted_part : List ℕ → Result (List ℕ × List ℕ) JobWhy
quoted_part text = do
  bar ← behind_mark 124 text
  quoted_at bar

-- what stands behind the response where the first part has it again, else the text
abbrev pub behind_again : List ℕ → List ℕ → Result (List ℕ × List ℕ) JobWhy → List ℕ
behind_again response text (Err why) = text
behind_again response text (Ok part) = if bytes_eq part.0 response then part.1 else text

-- a part without a byte, or with two quotes alone
abbrev pub is_free_part : List ℕ → Bool
is_free_part piece = (length (trim piece) == 0) || bytes_eq (trim piece) (34 ∷ 34 ∷ [])

-- parts that say nothing, each behind a bar, or nothing at all
abbrev pub are_free_parts : List ℕ → Bool
are_free_parts text = ((length (trim text) == 0) || is_next 124 text) && list_all is_free_part (pieces text)

-- 1 to 6 variables, none of them twice, a bar, the response, and perhaps parts that say nothing more
unfoldable pub table_argument : List ℕ → Result Instruction JobWhy
table_argument text = do
  variables ← names_up_to most_variables text
  some ← refuse BadValue (length variables.0 == 0)
  once ← refuse BadValue (is_twice variables.0)
  bar ← behind_mark 124 variables.1
  response ← quoted_at bar
  free ← refuse BadValue (not (are_free_parts (behind_again response.0 response.1 (quoted_part response.1))))
  Ok (said.Table variables.0 response.0)
