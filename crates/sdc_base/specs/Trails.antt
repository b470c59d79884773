-- The trail of a plan: steps, each of which hides the corners of a least cube (handbook, modular method; levels of
-- secondary cells and the trail own).
use Rattle.std.specs.Prelude.{ℕ, ◌==◌, ◌||◌, Bool, not, if◌then◌else◌, List, [], ◌∷◌, ◌++◌, map, flat_map, slice_get, Option, None, Some, pos}
use Rattle.std.specs.Int.{int_min}
use Rattle.std.specs.List.{list_any}
use Rattle.std.specs.Option.{option_map_or}
use Rattle.sdc_base.specs.declared.cell.Cell.{Cell}
use Rattle.sdc_base.specs.Kinds.{is_primary, is_primary_at}
use Rattle.sdc_base.specs.declared.cube.Corner.{Corner}
use Rattle.sdc_base.specs.declared.cube.Subtable.{Subtable}
use Rattle.sdc_base.specs.declared.facts.Levels.{Levels}
use Rattle.sdc_base.specs.declared.trail.PlanStep.{PlanStep}

-- the levels of a cell's step: those of a primary cell; of another one a unit above, and a unit below where it has one
abbrev pub step_levels : Cell → Levels
step_levels cell =
    if is_primary cell.kind then record { up = cell.up; down = cell.down }
    else record { up = pos 1; down = int_min cell.truth (pos 1) }

-- the levels of the step of the cell with this number
abbrev pub levels_at : List Cell → ℕ → Levels
levels_at cells cell = option_map_or step_levels (slice_get cells cell) (record { up = pos 0; down = pos 0 })

-- the cell is a corner of a step
abbrev pub is_corner : PlanStep → ℕ → Bool
is_corner step cell = list_any (λ corner. corner == cell) step.corners

-- the corners of all steps
abbrev pub corners_of : List PlanStep → List ℕ
corners_of steps = flat_map (λ step. step.corners) steps

-- the cells that are hidden after these steps: the primary ones, and the corners of the steps
abbrev pub hidden_after : List Cell → List PlanStep → ℕ → Bool
hidden_after cells steps cell = is_primary_at cells cell || list_any (λ step. is_corner step cell) steps

-- the step of a cell in a subtable, with the corners of its cube
abbrev pub step_of : Subtable → ℕ → List Corner → PlanStep
step_of subtable cell corners =
    record {
      table = subtable.table;
      parents = subtable.parents;
      cell = cell;
      corners = map (λ corner. corner.cell) corners;
    }

-- the steps and one more, where there is a cube and some corner of it isn't hidden yet
abbrev pub with_step : (ℕ → Bool) → Subtable → ℕ → List PlanStep → Option (List Corner) → List PlanStep
with_step hidden subtable cell steps None = steps
with_step hidden subtable cell steps (Some corners) = if list_any (λ corner. not (hidden corner.cell)) corners
    then steps ++ step_of subtable cell corners ∷ [] else steps
