-- Missing codes: those that a tree lacks are put below its total (own).
use Rattle.std.specs.Prelude.{ℕ, ◌+◌, nat_le, Bool, List, [], ◌∷◌, length, if◌then◌else◌, Option, None, Some, Result, Ok, Err}
use Rattle.std.specs.List.{list_any}
use Rattle.std.specs.Str.{bytes_eq}
use Rattle.sdc_base.specs.Trees.{Tree, codes}
use Rattle.code_trees.specs.Growing.{tree_with_node}
use Rattle.code_trees.specs.declared.tree_fault.TreeFault.{TreeFault}
use Rattle.code_trees.specs.declared.tree_fault.TreeFault.TheVariants as fault

-- the code is known
abbrev pub has_code : List (List ℕ) → List ℕ → Bool
has_code known code = list_any (bytes_eq code) known

-- the fault of a missing code, as entry n, after the codes of a tree: it is the total, or is the 5,001st; a code that
-- the tree has is no fault
abbrev pub missing_fault : List (List ℕ) → List ℕ → ℕ → Option TreeFault
missing_fault [] code n = None
missing_fault (total ∷ known) code n =
    if bytes_eq code total then Some (fault.IsTotal n)
    else if has_code known code then None
    else if nat_le 5000 (length known) then Some (fault.TooMany n)
    else None

-- the tree with a code below the total, unless it has it
abbrev pub with_code : Tree → List ℕ → Tree
with_code tree code = if has_code (codes tree) code then tree else tree_with_node tree code 0

-- what was read, unless there is a fault
abbrev pub unless_read : Option TreeFault → Result Tree TreeFault → Result Tree TreeFault
unless_read None read = read
unless_read (Some one) read = Err one

-- the tree with missing codes, which are numbered from n, or the first fault
abbrev pub with_codes : ℕ → Tree → List (List ℕ) → Result Tree TreeFault
with_codes n tree [] = Ok tree
with_codes n tree (code ∷ missing) = unless_read (missing_fault (codes tree) code n)
    (with_codes (n + 1) (with_code tree code) missing)

-- what missing codes can be refused for
abbrev pub IsMissingFault : TreeFault → Type 0
IsMissingFault (fault.IsTotal n) = Unit {0}
IsMissingFault (fault.TooMany n) = Unit {0}
IsMissingFault fault.Memory = Unit {0}
IsMissingFault other = ⊥
