-- What the keyword lines of one variable say, with defaults, and what clashes (tau-ARGUS user manual; the total Total
-- and the lead string @ own).
use Rattle.std.specs.Prelude.{ℕ, Bool, ◌||◌, ◌&&◌, not, nat_lt, codes, if◌then◌else◌, List, [], ◌∷◌, Option, None, Some, unwrap_or}
use Rattle.std.specs.List.{list_any}
use Rattle.rda_meta.specs.declared.setting.Keyword.{Keyword}
use Rattle.rda_meta.specs.declared.setting.Keyword.TheVariants.{Numeric, Decimals, Weight, CodeList, Hierarchical, HierLevels, HierCodeList, HierLeadString, TotCode}
use Rattle.rda_meta.specs.declared.setting.Argument.{Argument}
use Rattle.rda_meta.specs.declared.setting.Argument.TheVariants as argument
use Rattle.rda_meta.specs.declared.setting.Setting.{Setting}
use Rattle.rda_meta.specs.declared.meta.Shape.{Shape}
use Rattle.rda_meta.specs.declared.meta.Shape.TheVariants as shape
use Rattle.rda_meta.specs.Keywords.{same_keyword}

-- some line has this keyword
abbrev pub has_keyword : Keyword → List Setting → Bool
has_keyword keyword said = list_any (λ s. same_keyword s.keyword keyword) said

-- what stands behind this keyword, where a line has it
abbrev pub argument_said : Keyword → List Setting → Option Argument
argument_said keyword [] = None
argument_said keyword (s ∷ said) = if same_keyword s.keyword keyword then Some s.argument
    else argument_said keyword said

-- the number behind a keyword
abbrev pub number_in : Option Argument → Option ℕ
number_in (Some (argument.Number n)) = Some n
number_in other = None

-- the word behind a keyword
abbrev pub word_in : Option Argument → Option (List ℕ)
word_in (Some (argument.Word word)) = Some word
word_in other = None

-- the levels behind a keyword
abbrev pub levels_in : Option Argument → Option (List ℕ)
levels_in (Some (argument.Levels widths)) = Some widths
levels_in other = None

-- a weight is a number too
abbrev pub is_numeric : List Setting → Bool
is_numeric said = has_keyword Numeric said || has_keyword Weight said

-- levels or a hierarchy file
abbrev pub has_tree : List Setting → Bool
has_tree said = has_keyword HierLevels said || has_keyword HierCodeList said

-- no decimals where no line says so
abbrev pub decimals_of : List Setting → ℕ
decimals_of said = unwrap_or (number_in (argument_said Decimals said)) 0

-- the total code is Total where no line says another
abbrev pub total_of : List Setting → List ℕ
total_of said = unwrap_or (word_in (argument_said TotCode said)) (codes "Total")

-- the file with the list of codes, where a line names one
abbrev pub codes_of : List Setting → Option (List ℕ)
codes_of said = word_in (argument_said CodeList said)

-- the lead string is @ where no line says another
abbrev pub lead_of : List Setting → List ℕ
lead_of said = unwrap_or (word_in (argument_said HierLeadString said)) (codes "@")

-- levels where they are said, else a hierarchy file with its lead string, else flat
abbrev pub shape_from : Option (List ℕ) → Option (List ℕ) → List ℕ → Shape
shape_from (Some widths) file lead = shape.Levels widths
shape_from None (Some file) lead = shape.Listed file lead
shape_from None None lead = shape.Flat

-- how the codes are arranged
abbrev pub shape_of : List Setting → Shape
shape_of said =
    shape_from (levels_in (argument_said HierLevels said)) (word_in (argument_said HierCodeList said)) (lead_of said)

-- Levels stand with a hierarchy file; HIERARCHICAL with neither; a number, as a weight is one, with either; or a weight
-- has more than 4 decimals.
abbrev pub is_clashing : List Setting → Bool
is_clashing said =
    (has_keyword HierLevels said && has_keyword HierCodeList said)
    || (has_keyword Hierarchical said && not (has_tree said))
    || (is_numeric said && has_tree said)
    || (has_keyword Weight said && nat_lt 4 (decimals_of said))
