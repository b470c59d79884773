-- What a keyword line says, given the variables so far (tau-ARGUS user manual; the order of its faults own).
use Rattle.std.specs.Prelude.{ℕ, ◌-◌, Bool, not, if◌then◌else◌, List, [], ◌∷◌, ◌++◌, length, Option, slice_get, Result, Ok}
use Rattle.std.specs.List.{list_any, before_first, after_first}
use Rattle.sdc_base.specs.Steps.{◌>>=◌, or_fault, refuse}
use Rattle.sdc_base.specs.Tokens.{is_close}
use Rattle.rda_meta.specs.declared.faults.MetaWhy.{MetaWhy}
use Rattle.rda_meta.specs.declared.faults.MetaWhy.TheVariants.{BadName, UnknownKeyword, Twice}
use Rattle.rda_meta.specs.declared.setting.Keyword.{Keyword}
use Rattle.rda_meta.specs.declared.setting.Keyword.TheVariants.{Weight}
use Rattle.rda_meta.specs.declared.setting.Setting.{Setting}
use Rattle.rda_meta.specs.declared.entry.Entry.{Entry}
use Rattle.rda_meta.specs.Words.{words}
use Rattle.rda_meta.specs.Keywords.{keyword_of, same_keyword}
use Rattle.rda_meta.specs.Arguments.{argument_of}
use Rattle.rda_meta.specs.LineSettings.{has_keyword}

-- what stands between < and the first >, as a keyword; the text is that behind the <
unfoldable pub keyword_in : List ℕ → Result Keyword MetaWhy
keyword_in text = do
  closed ← refuse UnknownKeyword (not (list_any is_close text))
  or_fault UnknownKeyword (keyword_of (before_first is_close text))

-- the variable that a keyword line belongs to
abbrev pub last_of : List Entry → Option Entry
last_of entries = slice_get entries (length entries - 1)

-- The keyword stands again: WEIGHT for any variable, every other for this one. Those that are passed over are never
-- kept, so they are never said before.
abbrev pub is_again : Keyword → Entry → List Entry → Bool
is_again keyword entry entries =
    if same_keyword keyword Weight then list_any (λ e. has_keyword Weight e.said) entries
    else has_keyword keyword entry.said

-- The setting of a keyword line, or its first fault: no keyword, no variable before it, an argument that the keyword
-- does not take, or the keyword again.
unfoldable pub setting_in : List Entry → List ℕ → Result Setting MetaWhy
setting_in entries text = do
  keyword ← keyword_in text
  entry ← or_fault BadName (last_of entries)
  argument ← argument_of keyword entry.width (words (after_first is_close text))
  once ← refuse Twice (is_again keyword entry entries)
  Ok (record { keyword = keyword; argument = argument })

-- the setting is one more of the last variable
abbrev pub with_setting : Setting → List Entry → List Entry
with_setting setting [] = []
with_setting setting (entry ∷ []) = record entry { said = entry.said ++ setting ∷ [] } ∷ []
with_setting setting (entry ∷ next ∷ entries) = entry ∷ with_setting setting (next ∷ entries)
