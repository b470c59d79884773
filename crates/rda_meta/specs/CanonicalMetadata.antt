-- Which metadata have a canonical spelling (own).
use Rattle.std.specs.Prelude.{◌≡◌, ◌+◌, ◌-◌, ◌<◌, ◌≤◌, length, false, Option, None, Some, Ok, map, ℕ, Bool, true, List, [], ◌∷◌, ◌++◌}
use Rattle.std.specs.List.{list_any}
use Rattle.sdc_base.specs.Blanks.{trim}
use Rattle.rda_meta.specs.VariableLines.{is_name, is_named}
use Rattle.rda_meta.specs.KeywordLines.{is_again}
use Rattle.rda_meta.specs.declared.setting.Keyword.TheVariants.{Numeric, Decimals, Weight, CodeList, HierLevels, HierCodeList, HierLeadString, TotCode}
use Rattle.rda_meta.specs.declared.setting.Argument.TheVariants.{Nothing, Number, Word, Levels}
use Rattle.rda_meta.specs.declared.setting.Setting.{Setting}
use Rattle.rda_meta.specs.declared.meta.Shape.{Shape}
use Rattle.rda_meta.specs.declared.meta.Shape.TheVariants as shape
use Rattle.rda_meta.specs.declared.meta.Variable.{Variable}
use Rattle.rda_meta.specs.declared.entry.Entry.{Entry}
use Rattle.sdc_base.specs.Tokens.{is_quote}
use Rattle.rda_meta.specs.Keywords.{is_passed}
use Rattle.rda_meta.specs.Arguments.{argument_of}
use Rattle.rda_meta.specs.LineSettings.{is_clashing}
use Rattle.rda_meta.specs.Spelling.{argument_words}

-- a word without quotes
abbrev pub IsPlain : List ℕ → Type 0
IsPlain word = list_any is_quote word ≡ false

-- words without quotes
abbrev pub ArePlain : List (List ℕ) → Type 0
ArePlain [] = Unit {0}
ArePlain (word ∷ words) = IsPlain word × ArePlain words

-- a keyword with an argument that it takes, which an entry of this width can have once more
pub record IsSayable (earlier : List Entry) (entry : Entry) (setting : Setting) : Type 0 where
  pub plain : ArePlain (argument_words setting.argument)
  pub taken : argument_of setting.keyword entry.width (argument_words setting.argument) ≡ Ok setting.argument
  pub kept : is_passed setting.keyword ≡ false
  pub first : is_again setting.keyword entry (earlier ++ entry ∷ []) ≡ false

-- keywords that an entry can have one after the other
abbrev pub AreSayable : List Entry → Entry → List Setting → Type 0
AreSayable earlier entry [] = Unit {0}
AreSayable earlier entry (setting ∷ said) = IsSayable earlier entry setting
    × AreSayable earlier (record entry { said = entry.said ++ setting ∷ [] }) said

-- a variable within the limits, behind these; its line isn't known yet
pub record IsPlaceable (earlier : List Entry) (entry : Entry) : Type 0 where
  pub line : entry.line ≡ 0
  pub name : is_name entry.name ≡ true
  pub name_plain : IsPlain entry.name
  pub first : (0 < entry.first) × (entry.first ≤ 1000)
  pub width : (0 < entry.width) × (entry.width ≤ 255)
  pub within : entry.first + entry.width - 1 ≤ 1000
  pub missing_plain : ArePlain entry.missing
  pub missing_trimmed : map trim entry.missing ≡ entry.missing
  pub missing_few : length entry.missing ≤ 2
  pub fresh : is_named entry.name earlier ≡ false
  pub room : length earlier < 64

-- entries within the limits, one after the other, in none of which anything clashes
abbrev pub AreCanonical : List Entry → List Entry → Type 0
AreCanonical earlier [] = Unit {0}
AreCanonical earlier (entry ∷ entries) =
    IsPlaceable earlier entry × AreSayable earlier (record entry { said = [] }) entry.said
    × (is_clashing entry.said ≡ false)
    × AreCanonical (earlier ++ entry ∷ []) entries

-- ---- what is said of a variable in its canonical text

-- a weight says so, and is numeric by that; a number says so
abbrev pub flags_of : Bool → Bool → List Setting
flags_of true numeric = record { keyword = Weight; argument = Nothing } ∷ []
flags_of false true = record { keyword = Numeric; argument = Nothing } ∷ []
flags_of false false = []

-- the list of codes, where there is one
abbrev pub codes_said : Option (List ℕ) → List Setting
codes_said None = []
codes_said (Some file) = record { keyword = CodeList; argument = Word file } ∷ []

-- levels, or a hierarchy file with its lead string
abbrev pub shape_said : Shape → List Setting
shape_said shape.Flat = []
shape_said (shape.Levels widths) = record { keyword = HierLevels; argument = Levels widths } ∷ []
shape_said (shape.Listed file lead) = record { keyword = HierCodeList; argument = Word file }
    ∷ record { keyword = HierLeadString; argument = Word lead } ∷ []

-- what is said of a variable; decimals and total are always written
abbrev pub said_of : Variable → List Setting
said_of v =
    flags_of v.weight v.numeric ++ (record { keyword = Decimals; argument = Number v.decimals }
    ∷ record { keyword = TotCode; argument = Word v.total } ∷ [])
    ++ codes_said v.codes ++ shape_said v.shape

-- a variable with what is said of it
abbrev pub entry_of : Variable → Entry
entry_of v = record { line = 0; name = v.name; first = v.first; width = v.width; missing = v.missing; said = said_of v }
