-- How deep a place of a tree is (own).
use Rattle.std.specs.Prelude.{ℕ, ◌-◌, length}
use Rattle.sdc_base.specs.Trees.{Tree, places_upward}

-- how many levels a place is below the total: as many places as are met above it
abbrev pub depth_of : Tree → ℕ → ℕ
depth_of tree place = length (places_upward tree place) - 1
