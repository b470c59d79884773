-- The columns of a question: for each cell of the group how far it goes up, and how far down (linear programming; the
-- order own).
use Rattle.std.specs.Prelude.{ℕ, ◌+◌, ◌*◌, List, [], ◌∷◌, length, ℤ, pos, neg_ℤ, ◌-ℤ◌, if◌then◌else◌}
use Rattle.std.specs.List.{flat_map}
use Rattle.std.specs.Ordering.{int_eq}
use Rattle.sdc_base.specs.Forms.{Term, coefficient}
use Rattle.sdc_base.specs.Systems.{Numbers}
use Rattle.interval_audit.specs.Groups.{Group, members}

-- how many cells of the group are below the cell
abbrev pub rank : Group → ℕ → ℕ
rank group cell = length (members group cell)

-- the column of how far the cell goes up
abbrev pub up_column : Group → ℕ → ℕ
up_column group cell = 2 * rank group cell

-- the column of how far it goes down, right behind
abbrev pub down_column : Group → ℕ → ℕ
down_column group cell = 2 * rank group cell + 1

-- the moves of cells: up less down, and 0 outside of the group
abbrev pub moves_of : Group → Numbers → Numbers
moves_of group amounts cell =
    if group cell then amounts (up_column group cell) -ℤ amounts (down_column group cell) else pos 0

-- a multiple of a cell's move: so much of its up, and as much less of its down; no entries where it is 0
abbrev pub entries_for : Group → ℕ → ℤ → List Term
entries_for group cell k =
    if int_eq k (pos 0) then [] else (up_column group cell, k) ∷ (down_column group cell, neg_ℤ k) ∷ []

-- multiples of cells, at the columns of the cells of the group, ascending
abbrev pub entries_of : Group → ℕ → List Term → List Term
entries_of group n terms = flat_map (λ cell. entries_for group cell (coefficient terms cell)) (members group n)
