-- What stands behind a keyword: the argument that the keyword takes, or BadValue (tau-ARGUS user manual; ranges own).
use Rattle.std.specs.Prelude.{ℕ, ◌-◌, Bool, ◌&&◌, not, ◌==◌, nat_lt, List, [], ◌∷◌, length, take, sum, Result, Ok, Err}
use Rattle.std.specs.List.{list_any, list_all, suffix_len}
use Rattle.sdc_base.specs.Blanks.{is_blank, trim}
use Rattle.sdc_base.specs.Steps.{◌>>=◌, or_fault, refuse}
use Rattle.sdc_base.specs.Tokens.{number_in, is_file_name}
use Rattle.rda_meta.specs.declared.faults.MetaWhy.{MetaWhy}
use Rattle.rda_meta.specs.declared.faults.MetaWhy.TheVariants.{BadValue}
use Rattle.rda_meta.specs.declared.setting.Keyword.{Keyword}
use Rattle.rda_meta.specs.declared.setting.Keyword.TheVariants.{Decimals, CodeList, HierLevels, HierCodeList, HierLeadString, TotCode, Request, Holding, Distance}
use Rattle.rda_meta.specs.declared.setting.Argument.{Argument}
use Rattle.rda_meta.specs.declared.setting.Argument.TheVariants.{Nothing, Number, Word, Levels}

-- a lead string has 1 to 8 bytes and no blank
abbrev pub is_lead : List ℕ → Bool
is_lead word = nat_lt 0 (length word) && nat_lt (length word) 9 && not (list_any is_blank word)

-- no word at all
abbrev pub no_argument : List (List ℕ) → Result Argument MetaWhy
no_argument [] = Ok Nothing
no_argument (word ∷ words) = Err BadValue

-- exactly one word
abbrev pub only_word : List (List ℕ) → Result (List ℕ) MetaWhy
only_word [] = Err BadValue
only_word (word ∷ []) = Ok word
only_word (word ∷ other ∷ words) = Err BadValue

-- 0 to 9 digits after the point
unfoldable pub decimals_argument : List (List ℕ) → Result Argument MetaWhy
decimals_argument words = do
  word ← only_word words
  number ← or_fault BadValue (number_in 0 9 word)
  Ok (Number number)

-- the name of a file
unfoldable pub file_argument : List (List ℕ) → Result Argument MetaWhy
file_argument words = do
  word ← only_word words
  fine ← refuse BadValue (not (is_file_name word))
  Ok (Word word)

-- a lead string
unfoldable pub lead_argument : List (List ℕ) → Result Argument MetaWhy
lead_argument words = do
  word ← only_word words
  fine ← refuse BadValue (not (is_lead word))
  Ok (Word word)

-- a code, without blanks at its ends; it may be empty
unfoldable pub code_argument : List (List ℕ) → Result Argument MetaWhy
code_argument words = do
  word ← only_word words
  Ok (Word (trim word))

-- each word as a number; one above 255 is above every width
unfoldable pub word_numbers : List (List ℕ) → Result (List ℕ) MetaWhy
word_numbers [] = Ok []
word_numbers (word ∷ words) = do
  number ← or_fault BadValue (number_in 0 255 word)
  numbers ← word_numbers words
  Ok (number ∷ numbers)

-- a level of no bytes
abbrev pub is_zero : ℕ → Bool
is_zero n = n == 0

-- zeros at the end add no level
abbrev pub without_end_zeros : List ℕ → List ℕ
without_end_zeros numbers = take (length numbers - suffix_len is_zero numbers) numbers

-- At most 9 levels, none of them 0, that make up the width. A width is at least 1, so there is a level.
abbrev pub are_levels : ℕ → List ℕ → Bool
are_levels width levels = nat_lt (length levels) 10 && not (list_any is_zero levels) && (sum levels == width)

-- the bytes of a code per level, for a variable of this width
unfoldable pub levels_argument : ℕ → List (List ℕ) → Result Argument MetaWhy
levels_argument width words = do
  numbers ← word_numbers words
  fine ← refuse BadValue (not (are_levels width (without_end_zeros numbers)))
  Ok (Levels (without_end_zeros numbers))

-- the argument of a keyword, for a variable of this width; behind those that are passed over anything may stand
unfoldable pub argument_of : Keyword → ℕ → List (List ℕ) → Result Argument MetaWhy
argument_of Decimals width words = decimals_argument words
argument_of CodeList width words = file_argument words
argument_of HierLevels width words = levels_argument width words
argument_of HierCodeList width words = file_argument words
argument_of HierLeadString width words = lead_argument words
argument_of TotCode width words = code_argument words
argument_of Request width words = Ok Nothing
argument_of Holding width words = Ok Nothing
argument_of Distance width words = Ok Nothing
argument_of keyword width words = no_argument words
