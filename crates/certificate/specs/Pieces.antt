-- The pieces of a text between marks (own).
use Rattle.std.specs.Prelude.{ℕ, Bool, false, ◌==◌, List, [], ◌∷◌, if◌then◌else◌}
use Rattle.std.specs.List.{slice_split}

-- the line feed, the space and the colon
abbrev pub line_feed : ℕ
line_feed = 10

abbrev pub space : ℕ
space = 32

abbrev pub colon : ℕ
colon = 58

-- What stands before the first mark, between two marks and behind the last one; without a mark, the whole text.
abbrev pub pieces : ℕ → List ℕ → List (List ℕ)
pieces mark text = slice_split (λ b. b == mark) text

-- the pieces that are left of a text, unless all were given
abbrev pub pieces_left : ℕ → Bool → List ℕ → List (List ℕ)
pieces_left mark over text = if over then [] else pieces mark text

-- the text begins with this byte
abbrev pub begins_with : ℕ → List ℕ → Bool
begins_with byte [] = false
begins_with byte (b ∷ text) = b == byte
