-- Partial lists of choices for the cells that aren't multiples of the base, and the numbers that they leave (own).
use Rattle.std.specs.Prelude.{ℕ, ◌+◌, Bool, List, [], ◌∷◌, if◌then◌else◌, ℤ}
use Rattle.rounding.specs.Neighbours.{is_multiple, neighbour}

-- a choice for each of the first cells that aren't multiples: false is down, true is up
abbrev pub Choices : Type 0
Choices = List Bool

-- the numbers of the cells that aren't multiples, ascending, where the first truth is that of this cell
abbrev pub unrounded_cells : ℤ → ℕ → List ℤ → List ℕ
unrounded_cells base cell [] = []
unrounded_cells base cell (truth ∷ truths) = if is_multiple base truth then unrounded_cells base (cell + 1) truths
    else cell ∷ unrounded_cells base (cell + 1) truths

-- the first choice, or this one where none is left
abbrev pub first_or : Bool → Choices → Bool
first_or side [] = side
first_or side (choice ∷ choices) = choice

-- the choices behind the first
abbrev pub choices_behind : Choices → Choices
choices_behind [] = []
choices_behind (choice ∷ choices) = choices

-- A number for each cell: a multiple as it is, the others by the choices in turn, and to the one side where no choice
-- is made. So these are the least numbers that the choices leave, for down, and the greatest, for up.
abbrev pub by_choices : Bool → ℤ → List ℤ → Choices → List ℤ
by_choices side base [] choices = []
by_choices side base (truth ∷ truths) choices =
    if is_multiple base truth then truth ∷ by_choices side base truths choices
    else neighbour base truth (first_or side choices) ∷ by_choices side base truths (choices_behind choices)
