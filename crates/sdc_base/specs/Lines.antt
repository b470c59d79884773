-- The lines of a file's bytes (own: LF or CRLF, the last end may be missing).
use Rattle.std.specs.Prelude.{◌≡◌, ◌++◌, ℕ, Bool, false, List, [], ◌∷◌, ◌==◌, ◌&&◌, if◌then◌else◌}
use Rattle.std.specs.List.{list_any}
use Rattle.std.specs.Str.Lines.{strip_carriage_return}

-- a byte is a line feed, LF
abbrev pub is_line_feed : ℕ → Bool
is_line_feed b = b == 10

-- the bytes begin with a line feed
abbrev pub at_line_feed : List ℕ → Bool
at_line_feed [] = false
at_line_feed (b ∷ bytes) = is_line_feed b

-- one byte more at the front of the first line
abbrev pub with_front : ℕ → List (List ℕ) → List (List ℕ)
with_front b [] = (b ∷ []) ∷ []
with_front b (line ∷ lines) = (b ∷ line) ∷ lines

-- The lines of a text: each ends with LF or CRLF, and the last end may be missing.
-- After a last LF no empty line follows, and a CR that no LF follows belongs to its line.
abbrev pub lines : List ℕ → List (List ℕ)
lines [] = []
lines (b ∷ bytes) =
    if is_line_feed b then [] ∷ lines bytes
    else if (b == 13) && at_line_feed bytes then lines bytes
    else with_front b (lines bytes)

-- there is no LF in the line
abbrev pub HasNoFeed : List ℕ → Type 0
HasNoFeed line = list_any is_line_feed line ≡ false

-- a line without its end: no LF in it, and no CR at its end
pub record IsLine (line : List ℕ) : Type 0 where
  pub no_feed : HasNoFeed line
  pub no_return : strip_carriage_return line ≡ line

-- the text of lines, each ended by LF
abbrev pub text_of_lines : List (List ℕ) → List ℕ
text_of_lines [] = []
text_of_lines (line ∷ rest) = line ++ 10 ∷ text_of_lines rest

-- the text of lines, each ended by CR and LF
abbrev pub joined_with_returns : List (List ℕ) → List ℕ
joined_with_returns [] = []
joined_with_returns (line ∷ rest) = line ++ 13 ∷ 10 ∷ joined_with_returns rest
