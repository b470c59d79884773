-- The least and the greatest that a relation's form takes while each cell has a lower and an upper number (own).
use Rattle.std.specs.Prelude.{◌≡◌, ◌⊎◌, ◌≤ℤ◌, ℕ, ◌&&◌, ◌*ℤ◌, Bool, true, false, List, ℤ, pos, int_lt, int_le, if◌then◌else◌}
use Rattle.std.specs.List.{list_all}
use Rattle.sdc_base.specs.declared.relation.Relation.{Relation}
use Rattle.sdc_base.specs.declared.system.System.{System}
use Rattle.sdc_base.specs.Forms.{count_of}
use Rattle.sdc_base.specs.Systems.{Numbers, NamesCells, form, number_at}
use Rattle.rounding.specs.Choices.{Choices, by_choices}

-- the first numbers for the cells that the form counts above 0 times, the other numbers for the rest
abbrev pub extreme_numbers : Relation → Numbers → Numbers → Numbers
extreme_numbers r one other cell = if int_lt (pos 0) (count_of r cell) then one cell else other cell

-- the least of a form, from lower and upper numbers; from upper and lower ones, the greatest
abbrev pub extreme_of_form : Numbers → Numbers → Relation → ℤ
extreme_of_form one other r = form (extreme_numbers r one other) r

-- by how much the extreme of a form changes where a cell's number in the first list and in the other change by so much
abbrev pub change : Relation → ℕ → ℤ → ℤ → ℤ
change r cell by_one by_other = count_of r cell *ℤ (if int_lt (pos 0) (count_of r cell) then by_one else by_other)

-- whether 0 lies between the least and the greatest of a form
abbrev pub spans_none : Numbers → Numbers → Relation → Bool
spans_none lower upper r =
    int_le (extreme_of_form lower upper r) (pos 0) && int_le (pos 0) (extreme_of_form upper lower r)

-- a list of choices is open: for each relation, 0 lies between the least and the greatest that its form takes over the
-- choices left
abbrev pub is_open : System → List ℤ → ℤ → Choices → Bool
is_open system truths base choices =
    list_all (spans_none (number_at (by_choices false base truths choices))
    (number_at (by_choices true base truths choices))) system.relations

-- The extremes of a form bound it on all numbers between the lower and the upper ones. Each is what it takes on some of
-- them.
pub record ExtremesAreBounds : Type 0 where
  pub least : (cells : ℕ) (r : Relation) (lower upper numbers : Numbers) → NamesCells cells r
      → ((cell : ℕ) → (lower cell ≤ℤ numbers cell) × (numbers cell ≤ℤ upper cell))
      → extreme_of_form lower upper r ≤ℤ form numbers r
  pub greatest : (cells : ℕ) (r : Relation) (lower upper numbers : Numbers) → NamesCells cells r
      → ((cell : ℕ) → (lower cell ≤ℤ numbers cell) × (numbers cell ≤ℤ upper cell))
      → form numbers r ≤ℤ extreme_of_form upper lower r
  pub taken : (r : Relation) (one other : Numbers)
      → (numbers : Numbers) × ((cell : ℕ) → (numbers cell ≡ one cell) ⊎ (numbers cell ≡ other cell))
      × (form numbers r ≡ extreme_of_form one other r)
