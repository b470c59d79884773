-- The words of a line of metadata: in double quotes, or runs without blanks (tau-ARGUS user manual; quotes without a
-- second one own).
use Rattle.std.specs.Prelude.{ℕ, zero, suc, Bool, false, ◌&&◌, ◌==◌, List, [], ◌∷◌, length, drop, if◌then◌else◌}
use Rattle.std.specs.List.{list_any, before_first, after_first}
use Rattle.sdc_base.specs.Blanks.{is_blank, trim}
use Rattle.sdc_base.specs.Tokens.{is_quote}

-- the line begins with a quote that another one follows
abbrev pub is_quoted : List ℕ → Bool
is_quoted [] = false
is_quoted (b ∷ rest) = is_quote b && list_any is_quote rest

-- a word goes from a quote to the next one, or else to the first blank
abbrev pub first_word : List ℕ → List ℕ
first_word line = if is_quoted line then before_first is_quote (drop 1 line) else before_first is_blank line

-- what stands behind that word
abbrev pub behind_word : List ℕ → List ℕ
behind_word line = if is_quoted line then after_first is_quote (drop 1 line) else after_first is_blank line

-- at most so many words from the front, blanks between them passed over
unfoldable pub words_up_to : ℕ → List ℕ → List (List ℕ)
words_up_to zero line = []
words_up_to (suc n) line =
    if length (trim line) == 0 then []
    else first_word (trim line) ∷ words_up_to n (behind_word (trim line))

-- the words of a line, which has no more of them than bytes
unfoldable pub words : List ℕ → List (List ℕ)
words line = words_up_to (length line) line
