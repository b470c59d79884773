-- The texts of a certificate, one in each version: lines, each ended by LF, of tokens with one space between them
-- (own).
use Rattle.std.specs.Prelude.{ℕ, ◌+◌, ◌==◌, List, [], ◌∷◌, ◌++◌, map, flat_map, codes, decimal, if◌then◌else◌, ℤ, pos}
use Rattle.std.specs.Fmt.{signed_decimal}
use Rattle.std.specs.List.{join_with_byte}
use Rattle.sdc_base.specs.Forms.{Term}
use Rattle.sdc_base.specs.declared.method.Method.{Method}
use Rattle.sdc_base.specs.declared.method.Method.TheVariants as method
use Rattle.sdc_base.specs.declared.trail.PlanStep.{PlanStep}
use Rattle.worlds.specs.declared.refuted.Refuted.{Refuted}
use Rattle.worlds.specs.declared.world.Move.{Move}
use Rattle.certificate.specs.declared.certificate.Certificate.{Certificate}
use Rattle.certificate.specs.declared.certificate.WorldLine.{WorldLine}
use Rattle.certificate.specs.declared.version.Version.{Version}
use Rattle.certificate.specs.declared.version.Version.TheVariants.{One, Two}
use Rattle.certificate.specs.Pieces.{line_feed, space, colon}
use Rattle.sdc_base.specs.TableText.{comma}
use Rattle.sdc_base.specs.Sides.{side_word}
use Rattle.certificate.specs.Certificates.{first_line}

-- what the line of a method says behind its word
abbrev pub method_arguments : Method → List (List ℕ)
method_arguments method.Modular = codes "MOD" ∷ []
method_arguments (method.Gh passes) = codes "GH" ∷ decimal passes ∷ []
method_arguments (method.Rnd base) = codes "RND" ∷ signed_decimal base ∷ []

-- the tokens of the method's line
abbrev pub method_tokens : Method → List (List ℕ)
method_tokens how = codes "method" ∷ method_arguments how

-- the tokens of the line of the hidden cells; there is no such line where no cell is hidden
abbrev pub hidden_tokens : List ℕ → List (List (List ℕ))
hidden_tokens [] = []
hidden_tokens (cell ∷ cells) = (codes "hidden" ∷ decimal cell ∷ map decimal cells) ∷ []

-- numbers with commas between them
abbrev pub comma_list : List ℕ → List ℕ
comma_list numbers = join_with_byte comma (map decimal numbers)

-- what a step says, its table counted from 1
abbrev pub step_arguments : PlanStep → List (List ℕ)
step_arguments step =
    decimal (step.table + 1) ∷ comma_list step.parents ∷ decimal step.cell ∷ comma_list step.corners ∷ []

-- the tokens of a step's line
abbrev pub step_tokens : PlanStep → List (List ℕ)
step_tokens step = codes "step" ∷ step_arguments step

-- a number, a colon and a whole number
abbrev pub pair_token : Term → List ℕ
pair_token term = decimal term.0 ++ colon ∷ signed_decimal term.1

-- what a refutation says
abbrev pub refutation_arguments : Refuted → List (List ℕ)
refutation_arguments refuted =
    decimal refuted.subject ∷ decimal refuted.cell ∷ side_word refuted.side ∷ signed_decimal refuted.multipliers.den
    ∷ map pair_token refuted.multipliers.by_relation

-- the tokens of the line of a refutation, with this word in front
abbrev pub refutation_tokens : List ℕ → Refuted → List (List ℕ)
refutation_tokens word refuted = word ∷ refutation_arguments refuted

-- what a cell moves by, and the moves behind: the next move where it is the cell's, else 0
abbrev pub next_move : ℕ → List Move → ℤ × List Move
next_move cell [] = (pos 0, [])
next_move cell (move ∷ moves) = if move.cell == cell then (move.by, moves) else (pos 0, move ∷ moves)

-- what each cell moves by, in turn
abbrev pub moves_in_turn : List ℕ → List Move → List ℤ
moves_in_turn [] moves = []
moves_in_turn (cell ∷ cells) moves = (next_move cell moves).0 ∷ moves_in_turn cells (next_move cell moves).1

-- a cell that moves, a colon and what it moves by
abbrev pub move_token : Move → List ℕ
move_token move = pair_token (move.cell, move.by)

-- the moves of a complete table: in the first version one token for each hidden cell, in the second one for each cell
-- that moves
abbrev pub move_tokens : Version → List ℕ → List Move → List (List ℕ)
move_tokens One hidden moves = map signed_decimal (moves_in_turn hidden moves)
move_tokens Two hidden moves = map move_token moves

-- what a complete table says
abbrev pub world_arguments : Version → List ℕ → WorldLine → List (List ℕ)
world_arguments version hidden line =
    decimal line.cell ∷ side_word line.side ∷ signed_decimal line.world.den
    ∷ move_tokens version hidden line.world.moves

-- the tokens of the line of a complete table
abbrev pub world_tokens : List ℕ → Version → List ℕ → WorldLine → List (List ℕ)
world_tokens word version hidden line = word ∷ world_arguments version hidden line

-- the tokens of the first four lines; the version's line stands here as one token
abbrev pub head_tokens : Version → Method → ℕ → ℕ → List (List (List ℕ))
head_tokens version method cells relations =
    (first_line version ∷ []) ∷ method_tokens method ∷ (codes "cells" ∷ decimal cells ∷ [])
    ∷ (codes "relations" ∷ decimal relations ∷ []) ∷ []

-- the tokens of all lines
abbrev pub token_lines : Version → Certificate → List (List (List ℕ))
token_lines version c =
    head_tokens version c.method c.cells c.relations
    ++ hidden_tokens c.hidden
    ++ map step_tokens c.steps
    ++ map (refutation_tokens (codes "repair")) c.repairs
    ++ map (refutation_tokens (codes "need")) c.needs
    ++ map (world_tokens (codes "world") version c.hidden) c.worlds
    ++ (codes "end" ∷ []) ∷ []

-- a line of these tokens
abbrev pub line_text : List (List ℕ) → List ℕ
line_text tokens = join_with_byte space tokens ++ line_feed ∷ []

-- the text of a certificate in a version
abbrev pub text_in : Version → Certificate → List ℕ
text_in version c = flat_map line_text (token_lines version c)

-- the text that is written, in the second version
abbrev pub text_of : Certificate → List ℕ
text_of c = text_in Two c
