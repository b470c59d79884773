-- Networks: arcs, and which cells' arcs touch each point (network flows; own).
use Rattle.std.specs.Prelude.{◌≡◌, ◌⊎◌, ℕ, ◌<◌, ◌^◌, Bool, true, List, [], length, slice_index_or}
use Rattle.std.specs.List.{Contains}
use Rattle.std.specs.List.Sorted.{IsNonDecreasing}
use Rattle.sdc_base.specs.HiddenSets.{is_hidden}
use Rattle.signed_network.specs.declared.arcs.Arc.{Arc}
use Rattle.signed_network.specs.Arcs.{arc_at}

-- an arc begins or ends at a point
abbrev pub Touches : Arc → ℕ → Type 0
Touches arc point = (arc.from ≡ point) ⊎ (arc.to ≡ point)

-- the cells at a point, in a list of cells for each
abbrev pub cells_at : List (List ℕ) → ℕ → List ℕ
cells_at touching point = slice_index_or touching point []

-- for each point those of the first cells that have a flag, as hidden ones do, and whose arcs touch it, ascending
pub record AreTouching (flags : List Bool) (arcs : List Arc) (cells : ℕ) (touching : List (List ℕ)) : Type 0 where
  pub all : (point cell : ℕ) → cell < cells → is_hidden flags cell ≡ true → Touches (arc_at arcs cell) point
      → Contains (cells_at touching point) cell
  pub ascending : (point : ℕ) → IsNonDecreasing (cells_at touching point)
  pub only : (point cell : ℕ) → Contains (cells_at touching point) cell
      → (cell < cells) × (is_hidden flags cell ≡ true) × Touches (arc_at arcs cell) point

-- arcs between points, and for each point the cells with a flag whose arcs touch it
pub record IsNetwork (flags : List Bool) (arcs : List Arc) (touching : List (List ℕ)) : Type 0 where
  pub fewer_than_2_32 : length arcs < 2 ^ 32
  pub within : (cell : ℕ) → cell < length arcs
      → ((arc_at arcs cell).from < length touching) × ((arc_at arcs cell).to < length touching)
  pub touched : AreTouching flags arcs (length arcs) touching
