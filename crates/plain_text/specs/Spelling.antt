-- How a text spells its lines, each with its end behind it (own).
use Rattle.std.specs.Prelude.{◌≡◌, ◌++◌, ℕ, Bool, false, List, [], ◌∷◌, map, flat_map, if◌then◌else◌}
use Rattle.std.specs.List.{AllByRecursion}
use Rattle.std.specs.Str.Lines.{strip_carriage_return}
use Rattle.sdc_base.specs.Lines.{lines, HasNoFeed}

-- a line, and whether CR and LF end it or LF alone
pub record LineWithEnd : Type 0 where
  pub line : List ℕ
  pub by_return : Bool

-- There is no LF in the line, and no CR at its end where LF alone ends it.
pub record IsEnded (ended : LineWithEnd) : Type 0 where
  pub no_feed : HasNoFeed ended.line
  pub no_return : ended.by_return ≡ false → strip_carriage_return ended.line ≡ ended.line

-- the line and its end
abbrev pub spelling_of_line : LineWithEnd → List ℕ
spelling_of_line ended = if ended.by_return then ended.line ++ 13 ∷ 10 ∷ [] else ended.line ++ 10 ∷ []

-- a last line without an end, where it has a byte
abbrev pub open_line : List ℕ → List (List ℕ)
open_line [] = []
open_line (b ∷ line) = (b ∷ line) ∷ []

-- The bytes are lines with their ends and then a last one without, which may be empty.
-- These are the lines of the bytes, the empty last one aside.
pub record IsSpelled (bytes : List ℕ) : Type 0 where
  pub front : List LineWithEnd
  pub last : List ℕ
  pub ended : AllByRecursion IsEnded front
  pub no_feed : HasNoFeed last
  pub text : bytes ≡ flat_map spelling_of_line front ++ last
  pub read : lines bytes ≡ map (λ e. e.line) front ++ open_line last

-- every text spells its lines
abbrev pub AreSpelled : Type 0
AreSpelled = (bytes : List ℕ) → IsSpelled bytes
