-- The flat form: each code is a child of the total, in the given order (tau-ARGUS user manual).
use Rattle.std.specs.Prelude.{ℕ, List, [], ◌∷◌, Result}
use Rattle.sdc_base.specs.Trees.{Tree, flat_tree}
use Rattle.code_trees.specs.Faults.{first_code_fault, tree_unless}
use Rattle.code_trees.specs.declared.tree_fault.TreeFault.{TreeFault}

-- the tree of the codes, or the first fault
abbrev pub flat_of : List ℕ → List (List ℕ) → Result Tree TreeFault
flat_of total codes = tree_unless (first_code_fault 1 (total ∷ []) codes) (flat_tree total codes)
