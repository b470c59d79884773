-- Lists of tokens of a line: what each token must be, and what they mean together (own).
use Rattle.std.specs.Prelude.{ℕ, ◌==◌, not, Bool, List, [], ◌∷◌, length, map, if◌then◌else◌, Result, Ok, Err, ℤ, pos}
use Rattle.std.specs.List.{list_all, list_any, before_first, after_first}
use Rattle.std.specs.Ordering.{int_eq}
use Rattle.std.specs.Str.{bytes_eq}
use Rattle.sdc_base.specs.Forms.{Term}
use Rattle.sdc_base.specs.Steps.{◌>>=◌, refuse}
use Rattle.worlds.specs.declared.world.Move.{Move}
use Rattle.certificate.specs.declared.faults.CertWhy.{CertWhy}
use Rattle.certificate.specs.declared.faults.CertWhy.TheVariants.{Shape, Number, Order}
use Rattle.certificate.specs.declared.version.Version.{Version}
use Rattle.certificate.specs.declared.version.Version.TheVariants.{One, Two}
use Rattle.certificate.specs.Pieces.{colon}
use Rattle.certificate.specs.Numerals.{natural_of, integer_of, ascends}

-- the tokens behind the first one, where that is this word
abbrev pub behind_word : List ℕ → List (List ℕ) → Result (List (List ℕ)) CertWhy
behind_word word [] = Err Shape
behind_word word (first ∷ tokens) = if bytes_eq first word then Ok tokens else Err Shape

-- the first token, and those behind it
abbrev pub first_of : List (List ℕ) → Result (List ℕ × List (List ℕ)) CertWhy
first_of [] = Err Shape
first_of (token ∷ tokens) = Ok (token, tokens)

-- there is no further token
abbrev pub end_of : List (List ℕ) → Result (Unit {0}) CertWhy
end_of [] = Ok tt
end_of (token ∷ tokens) = Err Shape

-- the only token
unfoldable pub only_of : List (List ℕ) → Result (List ℕ) CertWhy
only_of tokens = do
  first ← first_of tokens
  end ← end_of first.1
  Ok first.0

-- each token a number of a cell, a relation or a place
unfoldable pub token_numbers : List (List ℕ) → Result (List ℕ) CertWhy
token_numbers [] = Ok []
token_numbers (token ∷ tokens) = do
  number ← natural_of 0 token
  numbers ← token_numbers tokens
  Ok (number ∷ numbers)

-- a token has a colon
abbrev pub is_pair : List ℕ → Bool
is_pair token = list_any (λ b. b == colon) token

-- a number, a colon and a whole number that isn't 0
unfoldable pub term_of : List ℕ → Result Term CertWhy
term_of token = do
  number ← natural_of 0 (before_first (λ b. b == colon) token)
  by ← integer_of (after_first (λ b. b == colon) token)
  counts ← refuse Number (int_eq by (pos 0))
  Ok (number, by)

-- each token such a pair
unfoldable pub terms_of : List (List ℕ) → Result (List Term) CertWhy
terms_of [] = Ok []
terms_of (token ∷ tokens) = do
  term ← term_of token
  terms ← terms_of tokens
  Ok (term ∷ terms)

-- a move of a cell stands before the others, unless it is 0
abbrev pub with_move : ℕ → ℤ → List Move → List Move
with_move cell by moves = if int_eq by (pos 0) then moves else record { cell = cell; by = by } ∷ moves

-- the first token as a whole number, and the tokens behind it
unfoldable pub first_integer : List (List ℕ) → Result (ℤ × List (List ℕ)) CertWhy
first_integer tokens = do
  token ← first_of tokens
  by ← integer_of token.0
  Ok (by, token.1)

-- one token for each cell, the whole number by which it moves; a cell that moves by 0 has no move
unfoldable pub moves_of : List ℕ → List (List ℕ) → Result (List Move) CertWhy
moves_of [] tokens = Ok []
moves_of (cell ∷ cells) tokens = do
  by ← first_integer tokens
  moves ← moves_of cells by.1
  Ok (with_move cell by.0 moves)

-- the cell and the number of such a pair, as a move
abbrev pub move_of : Term → Move
move_of term = record { cell = term.0; by = term.1 }

-- each token a cell and the number by which it moves, the cells ascending
unfoldable pub paired_moves_of : List (List ℕ) → Result (List Move) CertWhy
paired_moves_of tokens = do
  terms ← terms_of tokens
  order ← refuse Order (not (ascends (map (λ term. term.0) terms)))
  Ok (map move_of terms)

-- The tokens of moves have the form of their version: in the first there is one for each hidden cell, in the second
-- each has a colon.
abbrev pub have_form : Version → List ℕ → List (List ℕ) → Bool
have_form One hidden tokens = length tokens == length hidden
have_form Two hidden tokens = list_all is_pair tokens

-- the moves of tokens of that form
abbrev pub moves_by : Version → List ℕ → List (List ℕ) → Result (List Move) CertWhy
moves_by One hidden tokens = moves_of hidden tokens
moves_by Two hidden tokens = paired_moves_of tokens
