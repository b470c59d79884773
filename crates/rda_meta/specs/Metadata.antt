-- What each line adds to those before it, and what the whole text says (tau-ARGUS user manual; first fault own).
use Rattle.std.specs.Prelude.{ℕ, ◌+◌, ◌==◌, if◌then◌else◌, List, [], ◌∷◌, ◌++◌, map, Result, Ok, Err}
use Rattle.sdc_base.specs.Steps.{◌>>=◌}
use Rattle.sdc_base.specs.Lines.{lines}
use Rattle.sdc_base.specs.Blanks.{trim}
use Rattle.rda_meta.specs.declared.faults.MetaWhy.{MetaWhy}
use Rattle.rda_meta.specs.declared.faults.MetaWhy.TheVariants.{Clash}
use Rattle.rda_meta.specs.declared.setting.Keyword.TheVariants.{Weight}
use Rattle.rda_meta.specs.declared.setting.Setting.{Setting}
use Rattle.rda_meta.specs.declared.entry.Entry.{Entry}
use Rattle.rda_meta.specs.declared.entry.ReaderProgress.{ReaderProgress}
use Rattle.rda_meta.specs.declared.meta.Variable.{Variable}
use Rattle.rda_meta.specs.declared.meta.Meta.{Meta}
use Rattle.rda_meta.specs.Faults.{at_line}
use Rattle.rda_meta.specs.Words.{words}
use Rattle.rda_meta.specs.Keywords.{is_passed}
use Rattle.rda_meta.specs.LineSettings.{has_keyword, is_numeric, decimals_of, total_of, codes_of, shape_of, is_clashing}
use Rattle.rda_meta.specs.KeywordLines.{setting_in, with_setting}
use Rattle.rda_meta.specs.VariableLines.{variable_at}

-- a setting that is passed over is counted, and every other is one more of the last variable
abbrev pub after_setting : ReaderProgress → Setting → ReaderProgress
after_setting so_far setting =
    if is_passed setting.keyword then record so_far { passed_over = so_far.passed_over + 1 }
    else record so_far { entries = with_setting setting so_far.entries }

-- one variable more
abbrev pub after_variable : ReaderProgress → Entry → ReaderProgress
after_variable so_far entry = record so_far { entries = so_far.entries ++ entry ∷ [] }

-- a keyword line, behind its <
unfoldable pub keyword_line : ReaderProgress → List ℕ → Result ReaderProgress MetaWhy
keyword_line so_far text = do
  setting ← setting_in so_far.entries text
  Ok (after_setting so_far setting)

-- a variable line
unfoldable pub variable_line : ℕ → ReaderProgress → List ℕ → Result ReaderProgress MetaWhy
variable_line line so_far text = do
  entry ← variable_at line so_far.entries (words text)
  Ok (after_variable so_far entry)

-- a line without blanks at its ends: nothing, a keyword line, which begins with <, or a variable line
unfoldable pub text_says : ℕ → ReaderProgress → List ℕ → Result ReaderProgress MetaWhy
text_says line so_far [] = Ok so_far
text_says line so_far (b ∷ text) = if b == 60 then keyword_line so_far text else variable_line line so_far (b ∷ text)

-- The lines in their order, behind so many others, each with what those before it say.
unfoldable pub lines_say : ℕ → ReaderProgress → List (List ℕ) → Result ReaderProgress (ℕ × MetaWhy)
lines_say before so_far [] = Ok so_far
lines_say before so_far (text ∷ texts) = do
  next ← at_line (before + 1) (text_says (before + 1) so_far (trim text))
  lines_say (before + 1) next texts

-- The variables in their order: the first of which the lines say what clashes is a fault of its variable line.
unfoldable pub no_clash : List Entry → Result (Unit {0}) (ℕ × MetaWhy)
no_clash [] = Ok tt
no_clash (entry ∷ entries) = if is_clashing entry.said then Err (entry.line, Clash) else no_clash entries

-- the variable of an entry, with its defaults
unfoldable pub variable_of : Entry → Variable
variable_of entry = record {
  name = entry.name;
  first = entry.first;
  width = entry.width;
  missing = entry.missing;
  numeric = is_numeric entry.said;
  weight = has_keyword Weight entry.said;
  decimals = decimals_of entry.said;
  total = total_of entry.said;
  codes = codes_of entry.said;
  shape = shape_of entry.said;
}

-- before the first line
abbrev pub no_lines : ReaderProgress
no_lines = record { entries = []; passed_over = 0 }

-- the metadata that a text states, or its first fault with its line
unfoldable pub meta_of : List ℕ → Result Meta (ℕ × MetaWhy)
meta_of bytes = do
  all ← lines_say 0 no_lines (lines bytes)
  fine ← no_clash all.entries
  Ok (record { variables = map variable_of all.entries; passed_over = all.passed_over })
