-- What the maker of the lead form makes of the lines, by the path above the last node (own).
use Rattle.std.specs.Prelude.{ℕ, ◌-◌, List, [], ◌∷◌, length, slice_index, Result}
use Rattle.sdc_base.specs.Trees.{Tree, codes}
use Rattle.code_trees.specs.Faults.{tree_unless}
use Rattle.code_trees.specs.Growing.{tree_with_node}
use Rattle.code_trees.specs.Path.{next_path}
use Rattle.code_trees.specs.declared.tree_fault.TreeFault.{TreeFault}
use Rattle.hierarchy.specs.Lead.{LeadLine, first_line_fault}

-- the tree of the lines, by the path
abbrev pub tree_by_path : Tree → List ℕ → List LeadLine → Tree
tree_by_path tree path [] = tree
tree_by_path tree path (line ∷ lines) = tree_by_path (tree_with_node tree line.code (slice_index path line.leads))
    (next_path path line.leads (length tree)) lines

-- the tree that the lines that are left make of this one, or their first fault
abbrev pub tree_with_lines : Tree → List ℕ → List LeadLine → Result Tree TreeFault
tree_with_lines tree path lines =
    tree_unless (first_line_fault (length path - 1) (codes tree) lines) (tree_by_path tree path lines)
