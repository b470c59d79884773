-- What the lines so far say, and what one more line says behind them (tau-ARGUS user manual; order of faults own).
use Rattle.std.specs.Prelude.{ℕ, ◌+◌, Bool, true, false, not, ◌||◌, ◌&&◌, ◌==◌, nat_le, nat_lt, if◌then◌else◌, List, [], ◌∷◌, ◌++◌, length, flat_map, Result, Ok}
use Rattle.std.specs.List.{list_any}
use Rattle.std.specs.Set.{distinct_count}
use Rattle.std.specs.Str.{bytes_eq}
use Rattle.sdc_base.specs.Blanks.{trim}
use Rattle.sdc_base.specs.Steps.{◌>>=◌, or_fault, refuse}
use Rattle.job_lang.specs.declared.faults.JobWhy.{JobWhy}
use Rattle.job_lang.specs.declared.faults.JobWhy.TheVariants.{UnknownCommand, Twice, TooMany, OtherResponse}
use Rattle.job_lang.specs.declared.job.TableLine.{TableLine}
use Rattle.job_lang.specs.declared.statement.Keyword.{Keyword}
use Rattle.job_lang.specs.declared.statement.Keyword.TheVariants.{OpenMicrodata, OpenMetadata, SpecifyTable, SafetyRule, ReadMicrodata, Apriori, Cost, Steps, Nodes, Suppress, WriteTable, Certificate, Contributors, Depth}
use Rattle.job_lang.specs.declared.statement.Instruction.{Instruction}
use Rattle.job_lang.specs.declared.statement.Instruction.TheVariants as said
use Rattle.job_lang.specs.declared.statement.Statement.{Statement}
use Rattle.job_lang.specs.declared.statement.Draft.{Draft}
use Rattle.job_lang.specs.Faults.{at_line}
use Rattle.job_lang.specs.Keywords.{keyword_of, same_keyword, word_in}
use Rattle.job_lang.specs.Arguments.{argument_of}

-- the command by which it is said
abbrev pub command_of : Instruction → Keyword
command_of (said.Microdata name) = OpenMicrodata
command_of (said.Metadata name) = OpenMetadata
command_of (said.Table variables response) = SpecifyTable
command_of (said.Safety rules) = SafetyRule
command_of said.Read = ReadMicrodata
command_of (said.Prior file number separator) = Apriori
command_of (said.Cost cost) = Cost
command_of (said.Steps steps) = Steps
command_of (said.Nodes nodes) = Nodes
command_of (said.Suppress method) = Suppress
command_of (said.Output number file) = WriteTable
command_of (said.Certificate name) = Certificate
command_of (said.Contributors name) = Contributors
command_of (said.Depth number variable depth) = Depth

-- it is said by this command
abbrev pub is_by : Keyword → Instruction → Bool
is_by keyword one = same_keyword (command_of one) keyword

-- an a priori file of the table with this number, by its digits without zeros in front
abbrev pub is_prior_of : List ℕ → Instruction → Bool
is_prior_of number (said.Prior file other separator) = bytes_eq other number
is_prior_of number one = false

-- an output of the table with this number
abbrev pub is_output_of : List ℕ → Instruction → Bool
is_output_of number (said.Output other file) = bytes_eq other number
is_output_of number one = false

-- a depth of this variable in the table with this number
abbrev pub is_depth_of : List ℕ → List ℕ → Instruction → Bool
is_depth_of number variable (said.Depth other name depth) = bytes_eq other number && bytes_eq name variable
is_depth_of number variable one = false

-- It is said before: an a priori file or an output for the same table, a depth for the same table and variable, all else
-- by the same command. Tables are no repetition.
abbrev pub is_again : Instruction → List Statement → Bool
is_again (said.Table variables response) before = false
is_again (said.Prior file number separator) before = list_any (λ s. is_prior_of number s.said) before
is_again (said.Output number file) before = list_any (λ s. is_output_of number s.said) before
is_again (said.Depth number variable depth) before = list_any (λ s. is_depth_of number variable s.said) before
is_again one before = list_any (λ s. is_by (command_of one) s.said) before

-- all names of variables that span tables, as often as they stand
abbrev pub names_in : List TableLine → List (List ℕ)
names_in tables = flat_map (λ t. t.variables) tables

-- With this table there are more than 8 tables, or more than 8 different variables in all. Not: variables counted as
-- often as they stand.
abbrev pub is_past_room : List (List ℕ) → List TableLine → Bool
is_past_room variables tables =
    nat_le 8 (length tables) || nat_lt 8 (distinct_count bytes_eq (names_in tables ++ variables))

-- the first table has another response
abbrev pub is_other_response : List ℕ → List TableLine → Bool
is_other_response response [] = false
is_other_response response (first ∷ tables) = not (bytes_eq first.response response)

-- one table more
unfoldable pub with_table : ℕ → Draft → List (List ℕ) → List ℕ → Result Draft JobWhy
with_table line draft variables response = do
  room ← refuse TooMany (is_past_room variables draft.tables)
  same ← refuse OtherResponse (is_other_response response draft.tables)
  Ok (record draft { tables = draft.tables ++ record { line = line; variables = variables; response = response } ∷ [] })

-- one statement more
unfoldable pub with_statement : ℕ → Draft → Instruction → Result Draft JobWhy
with_statement line draft one = do
  once ← refuse Twice (is_again one draft.said)
  Ok (record draft { said = draft.said ++ record { line = line; said = one } ∷ [] })

-- what is said goes to the tables, or to the rest
unfoldable pub with_said : ℕ → Draft → Instruction → Result Draft JobWhy
with_said line draft (said.Table variables response) = with_table line draft variables response
with_said line draft one = with_statement line draft one

-- a blank line, or one that begins with //
abbrev pub is_passed_over : List ℕ → Bool
is_passed_over [] = true
is_passed_over (b ∷ []) = false
is_passed_over (b ∷ c ∷ text) = if b == 47 then c == 47 else false

-- A command and its argument, behind what was said. The faults in their order: no word, an unknown one, the argument,
-- again, no room, another response.
unfoldable pub command_line : ℕ → Draft → List ℕ → Result Draft JobWhy
command_line line draft text = do
  word ← word_in text
  keyword ← or_fault UnknownCommand (keyword_of word.0)
  one ← argument_of keyword word.1
  with_said line draft one

-- a line without blanks at its ends
unfoldable pub text_says : ℕ → Draft → List ℕ → Result Draft JobWhy
text_says line draft text = if is_passed_over text then Ok draft else command_line line draft text

-- The lines in their order, behind so many others, each with what those before it say.
unfoldable pub lines_say : ℕ → Draft → List (List ℕ) → Result Draft (ℕ × JobWhy)
lines_say before draft [] = Ok draft
lines_say before draft (text ∷ texts) = do
  next ← at_line (before + 1) (text_says (before + 1) draft (trim text))
  lines_say (before + 1) next texts

-- before the first line
abbrev pub empty_draft : Draft
empty_draft = record { tables = []; said = [] }
