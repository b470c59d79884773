-- Cells as arcs between points, by signs for the relations (network flows; own).
-- The points are the relations by their numbers, and behind them one more: the outside.
use Rattle.std.specs.Prelude.{◌≡◌, ℕ, ◌<◌, ◌≤◌, ◌==◌, Bool, true, false, not, List, length, slice_index_or, ℤ, pos, ◌-ℤ◌, if◌then◌else◌}
use Rattle.sdc_base.specs.declared.ends.End.{End}
use Rattle.sdc_base.specs.declared.ends.Ends.{Ends}
use Rattle.sdc_base.specs.declared.ends.Ends.TheVariants.{Free, One, Two}
use Rattle.sdc_base.specs.declared.relation.Relation.{Relation}
use Rattle.sdc_base.specs.Signs.{sign_of, signed_count}
use Rattle.signed_network.specs.declared.arcs.Arc.{Arc}

-- two flags are alike
abbrev pub is_same : Bool → Bool → Bool
is_same true other = other
is_same false other = not other

-- 1 at the point with this number, else 0
abbrev pub at_point : ℕ → ℕ → ℤ
at_point point number = if point == number then pos 1 else pos 0

-- what an arc brings to a point: 1 where it ends, -1 where it begins
abbrev pub brings_to : Arc → ℕ → ℤ
brings_to arc point = at_point arc.to point -ℤ at_point arc.from point

-- The arc of a cell begins at the point that counts the cell with -1 and ends at the one that counts it with 1, the
-- outside where no relation does.
pub record IsArcOf (relations : List Relation) (signs : List Bool) (cell : ℕ) (arc : Arc) : Type 0 where
  pub from_point : arc.from ≤ length relations
  pub to_point : arc.to ≤ length relations
  pub counted : (number : ℕ) → number < length relations
      → signed_count relations signs number cell ≡ brings_to arc number

-- the arc of a cell in a list with one for each
abbrev pub arc_at : List Arc → ℕ → Arc
arc_at arcs cell = slice_index_or arcs cell (record { from = 0; to = 0 })

-- an arc for each cell
pub record AreArcsOf (relations : List Relation) (signs : List Bool) (cells : ℕ) (arcs : List Arc) : Type 0 where
  pub each : length arcs ≡ cells
  pub arced : (cell : ℕ) → cell < cells → IsArcOf relations signs cell (arc_at arcs cell)

-- the arc, joined to the relation of an end
abbrev pub arc_with : List Bool → Arc → End → Arc
arc_with signs arc end =
    if is_same end.plus (sign_of signs end.relation) then record { from = arc.from; to = end.relation }
    else record { from = end.relation; to = arc.to }

-- the arc of a cell with these ends
abbrev pub arc_of : List Bool → ℕ → Ends → Arc
arc_of signs outside Free = record { from = outside; to = outside }
arc_of signs outside (One one) = arc_with signs (record { from = outside; to = outside }) one
arc_of signs outside (Two one other) =
    arc_with signs (arc_with signs (record { from = outside; to = outside }) one) other
