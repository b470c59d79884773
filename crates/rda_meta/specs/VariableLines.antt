-- A variable line: name, first position, width, and at most two missing codes (tau-ARGUS user manual; limits and order
-- of faults own).
use Rattle.std.specs.Prelude.{ℕ, ◌+◌, ◌-◌, Bool, ◌&&◌, not, nat_lt, if◌then◌else◌, List, [], ◌∷◌, length, map, Result, Ok, Err}
use Rattle.std.specs.List.{list_any}
use Rattle.std.specs.Str.{bytes_eq}
use Rattle.sdc_base.specs.Blanks.{trim}
use Rattle.sdc_base.specs.Steps.{◌>>=◌, or_fault, refuse}
use Rattle.sdc_base.specs.Tokens.{number_in}
use Rattle.rda_meta.specs.declared.faults.MetaWhy.{MetaWhy}
use Rattle.rda_meta.specs.declared.faults.MetaWhy.TheVariants.{BadName, BadPlace, BadValue, Twice, TooMany}
use Rattle.rda_meta.specs.declared.entry.Entry.{Entry}

-- a name has 1 to 64 bytes
abbrev pub is_name : List ℕ → Bool
is_name word = nat_lt 0 (length word) && nat_lt (length word) 65

-- the name, and the words behind it
unfoldable pub name_at : List (List ℕ) → Result (List ℕ × List (List ℕ)) MetaWhy
name_at [] = Err BadName
name_at (word ∷ words) = do
  fine ← refuse BadName (not (is_name word))
  Ok (word, words)

-- a number from 1 to so much, and the words behind it
unfoldable pub number_at : ℕ → List (List ℕ) → Result (ℕ × List (List ℕ)) MetaWhy
number_at most [] = Err BadPlace
number_at most (word ∷ words) = do
  number ← or_fault BadPlace (number_in 1 most word)
  Ok (number, words)

-- The last position, which is first plus width less one, is above 1,000. Not: first plus width.
abbrev pub is_past : ℕ → ℕ → Bool
is_past first width = nat_lt 1000 (first + width - 1)

-- at most two codes, without blanks at their ends
unfoldable pub missing_of : List (List ℕ) → Result (List (List ℕ)) MetaWhy
missing_of words = if nat_lt 2 (length words) then Err BadValue else Ok (map trim words)

-- a variable has this name, byte for byte
abbrev pub is_named : List ℕ → List Entry → Bool
is_named name entries = list_any (λ entry. bytes_eq entry.name name) entries

-- The variable of the words of a line behind these variables, or its first fault: its name, its place, its missing
-- codes, the name again, or no room for one more.
unfoldable pub variable_at : ℕ → List Entry → List (List ℕ) → Result Entry MetaWhy
variable_at line entries words = do
  name ← name_at words
  first ← number_at 1000 name.1
  width ← number_at 255 first.1
  within ← refuse BadPlace (is_past first.0 width.0)
  missing ← missing_of width.1
  fresh ← refuse Twice (is_named name.0 entries)
  room ← refuse TooMany (nat_lt 63 (length entries))
  Ok (record { line = line; name = name.0; first = first.0; width = width.0; missing = missing; said = [] })
