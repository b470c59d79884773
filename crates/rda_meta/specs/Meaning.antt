-- What metadata that are read mean: each variable has what its own lines say, and the lines that are passed over are
-- counted (own).
use Rattle.std.specs.Prelude.{◌≡◌, ◌&&◌, length, ℕ, ◌+◌, ◌-◌, Bool, false, List, [], ◌∷◌, map, filter, slice_get, drop, not, ◌==◌, ◌++◌, if◌then◌else◌, Some, Result, Ok, Err}
use Rattle.sdc_base.specs.Blanks.{trim}
use Rattle.sdc_base.specs.Lines.{lines}
use Rattle.sdc_base.specs.Steps.{◌>>=◌}
use Rattle.rda_meta.specs.VariableLines.{variable_at}
use Rattle.rda_meta.specs.KeywordLines.{keyword_in}
use Rattle.sdc_base.specs.Tokens.{is_close}
use Rattle.rda_meta.specs.Metadata.{variable_of, meta_of}
use Rattle.rda_meta.specs.declared.faults.MetaWhy.{MetaWhy}
use Rattle.std.specs.List.{AllByRecursion, after_first}
use Rattle.rda_meta.specs.declared.setting.Keyword.{Keyword}
use Rattle.rda_meta.specs.declared.setting.Setting.{Setting}
use Rattle.rda_meta.specs.declared.meta.Meta.{Meta}
use Rattle.rda_meta.specs.declared.meta.Variable.{Variable}
use Rattle.rda_meta.specs.declared.entry.Entry.{Entry}
use Rattle.rda_meta.specs.Words.{words}
use Rattle.rda_meta.specs.Keywords.{is_passed}
use Rattle.rda_meta.specs.Arguments.{argument_of}

-- neither blank nor a keyword line
abbrev pub is_variable_line : List ℕ → Bool
is_variable_line [] = false
is_variable_line (b ∷ text) = not (b == 60)

-- a setting that isn't passed over
abbrev pub settings_kept : Result Setting MetaWhy → List Setting
settings_kept (Err why) = []
settings_kept (Ok setting) = if is_passed setting.keyword then [] else setting ∷ []

-- what a keyword line states by itself, for a variable of this width
abbrev pub settings_of_line : ℕ → List ℕ → List Setting
settings_of_line width [] = []
settings_of_line width (b ∷ text) = settings_kept
    (keyword_in text >>= λ keyword. argument_of keyword width (words (after_first is_close text))
    >>= λ argument. Ok (record { keyword = keyword; argument = argument }))

-- what the lines up to the next variable line state
abbrev pub stated_behind : ℕ → List (List ℕ) → List Setting
stated_behind width [] = []
stated_behind width (text ∷ texts) = if is_variable_line text then []
    else settings_of_line width text ++ stated_behind width texts

-- the numbers of the variable lines, behind so many lines
abbrev pub variable_line_numbers : ℕ → List (List ℕ) → List ℕ
variable_line_numbers before [] = []
variable_line_numbers before (text ∷ texts) =
    if is_variable_line text then (before + 1) ∷ variable_line_numbers (before + 1) texts
    else variable_line_numbers (before + 1) texts

-- The entry is that of the variable line with its number, and what is said of it is what the lines behind that one
-- state, up to the next variable line.
pub record IsOfItsLines (texts : List (List ℕ)) (entry : Entry) : Type 0 where
  pub earlier : List Entry
  pub text : List ℕ
  pub line : slice_get texts (entry.line - 1) ≡ Some text
  pub placed : variable_at entry.line earlier (words text) ≡ Ok (record entry { said = [] })
  pub said : entry.said ≡ stated_behind entry.width (drop entry.line texts)

-- There is one variable for each variable line, in their order, and each is what its own lines say, with defaults for
-- what they don't.
pub record AreOfTheirLines (texts : List (List ℕ)) (variables : List Variable) : Type 0 where
  pub entries : List Entry
  pub given : variables ≡ map variable_of entries
  pub lines : map (λ entry. entry.line) entries ≡ variable_line_numbers 0 texts
  pub each : AllByRecursion (IsOfItsLines texts) entries

-- the keyword is one of those that are passed over
abbrev pub is_passed_keyword : Result Keyword MetaWhy → Bool
is_passed_keyword (Ok keyword) = is_passed keyword
is_passed_keyword (Err why) = false

-- a keyword line whose keyword is passed over
abbrev pub is_passed_line : List ℕ → Bool
is_passed_line [] = false
is_passed_line (b ∷ text) = (b == 60) && is_passed_keyword (keyword_in text)

-- In metadata that are read a variable has what its own lines say.
abbrev pub IsMeant : Type 0
IsMeant =
    (bytes : List ℕ) (meta : Meta) → meta_of bytes ≡ Ok meta → AreOfTheirLines (map trim (lines bytes)) meta.variables

-- The lines that are passed over are counted, and no other.
abbrev pub IsCounted : Type 0
IsCounted =
    (bytes : List ℕ) (meta : Meta) → meta_of bytes ≡ Ok meta
    → meta.passed_over ≡ length (filter is_passed_line (map trim (lines bytes)))
