-- The canonical spelling of metadata, and which metadata have one (own).
use Rattle.std.specs.Prelude.{zero, suc, codes, decimal, map, ℕ, Bool, true, ◌||◌, ◌==◌, if◌then◌else◌, List, [], ◌∷◌, ◌++◌}
use Rattle.std.specs.List.{list_any}
use Rattle.sdc_base.specs.Blanks.{is_blank}
use Rattle.rda_meta.specs.declared.setting.Keyword.{Keyword}
use Rattle.rda_meta.specs.declared.setting.Keyword.TheVariants.{Recodeable, Recodable, Numeric, Decimals, Weight, CodeList, Hierarchical, HierLevels, HierCodeList, HierLeadString, TotCode, Request, Holding, Distance}
use Rattle.rda_meta.specs.declared.setting.Argument.{Argument}
use Rattle.rda_meta.specs.declared.setting.Argument.TheVariants.{Nothing, Number, Word, Levels}
use Rattle.rda_meta.specs.declared.setting.Setting.{Setting}
use Rattle.rda_meta.specs.declared.entry.Entry.{Entry}
use Rattle.sdc_base.specs.Tokens.{in_quotes, is_quote}

-- an empty word, one with a blank in it, and one that begins with a quote or <
abbrev pub needs_quotes : List ℕ → Bool
needs_quotes [] = true
needs_quotes (b ∷ word) = is_quote b || (b == 60) || list_any is_blank (b ∷ word)

-- a word, in quotes where it needs them
abbrev pub spelling_of_word : List ℕ → List ℕ
spelling_of_word word = if needs_quotes word then in_quotes word else word

-- each word behind a space
abbrev pub words_behind_spaces : List (List ℕ) → List ℕ
words_behind_spaces [] = []
words_behind_spaces (word ∷ words) = 32 ∷ spelling_of_word word ++ words_behind_spaces words

-- the spelling of a keyword
abbrev pub name_of : Keyword → List ℕ
name_of Recodeable = codes "RECODEABLE"
name_of Recodable = codes "RECODABLE"
name_of Numeric = codes "NUMERIC"
name_of Decimals = codes "DECIMALS"
name_of Weight = codes "WEIGHT"
name_of CodeList = codes "CODELIST"
name_of Hierarchical = codes "HIERARCHICAL"
name_of HierLevels = codes "HIERLEVELS"
name_of HierCodeList = codes "HIERCODELIST"
name_of HierLeadString = codes "HIERLEADSTRING"
name_of TotCode = codes "TOTCODE"
name_of Request = codes "REQUEST"
name_of Holding = codes "HOLDING"
name_of Distance = codes "DISTANCE"

-- the words of an argument
abbrev pub argument_words : Argument → List (List ℕ)
argument_words Nothing = []
argument_words (Number n) = decimal n ∷ []
argument_words (Word word) = word ∷ []
argument_words (Levels widths) = map decimal widths

-- a keyword line, behind its <
abbrev pub setting_text : Setting → List ℕ
setting_text setting = name_of setting.keyword ++ 62 ∷ words_behind_spaces (argument_words setting.argument)

-- a keyword line
abbrev pub setting_line : Setting → List ℕ
setting_line setting = 60 ∷ setting_text setting

-- a variable line
abbrev pub variable_text : Entry → List ℕ
variable_text entry =
    spelling_of_word entry.name ++ words_behind_spaces (decimal entry.first ∷ decimal entry.width ∷ entry.missing)

-- a variable line, and a line for each keyword
abbrev pub entry_lines : Entry → List (List ℕ)
entry_lines entry = variable_text entry ∷ map setting_line entry.said

-- the lines of all entries
abbrev pub all_lines : List Entry → List (List ℕ)
all_lines [] = []
all_lines (entry ∷ entries) = entry_lines entry ++ all_lines entries

-- so many lines that are passed over
abbrev pub passed_lines : ℕ → List (List ℕ)
passed_lines zero = []
passed_lines (suc n) = codes "<REQUEST>" ∷ passed_lines n

-- the canonical lines of entries and of so many lines that are passed over
abbrev pub canonical_lines : List Entry → ℕ → List (List ℕ)
canonical_lines entries passed = all_lines entries ++ passed_lines passed
