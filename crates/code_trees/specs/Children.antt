-- The code at a place of a tree, and the places right below one and beside one (own).
use Rattle.std.specs.Prelude.{ℕ, ◌+◌, Bool, false, ◌==◌, List, [], ◌∷◌, drop, if◌then◌else◌, slice_get, Option, None, Some, option_map}
use Rattle.std.specs.Option.{option_and_then}
use Rattle.sdc_base.specs.Trees.{Tree, parent_at}

-- the code at a place, where there is one
abbrev pub code_at : Tree → ℕ → Option (List ℕ)
code_at tree place = option_map (λ node. node.0) (slice_get tree place)

-- whether this place is the parent
abbrev pub is_place : ℕ → Option ℕ → Bool
is_place place None = false
is_place place (Some parent) = parent == place

-- the first child of a place among these nodes, of which the first stands at place n
abbrev pub child_from : ℕ → ℕ → Tree → Option ℕ
child_from n place [] = None
child_from n place (node ∷ nodes) = if is_place place node.1 then Some n else child_from (n + 1) place nodes

-- the first place whose parent this place is
abbrev pub first_child : Tree → ℕ → Option ℕ
first_child tree place = child_from 0 place tree

-- the first later place with the same parent
abbrev pub next_sibling : Tree → ℕ → Option ℕ
next_sibling tree place =
    option_and_then (λ parent. child_from (place + 1) parent (drop (place + 1) tree)) (parent_at tree place)
