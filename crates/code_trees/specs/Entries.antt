-- What a map from codes to parents holds, as a tree (own).
use Rattle.std.specs.Prelude.{ℕ, List, map, Option}
use Rattle.std.specs.declared.alloc.Global.{Global}
use Rattle.std.specs.declared.vec.Vec.{Vec}
use Rattle.sdc_base.specs.Trees.{Tree}

-- the entries of the map, each as a node with its code and parent
abbrev pub nodes_of : List (Vec ℕ Global × Option ℕ) → Tree
nodes_of entries = map (λ entry. (entry.0.items, entry.1)) entries
