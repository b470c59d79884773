-- The text of a tree in the lead form, and the law that it is read back (own).
use Rattle.std.specs.Prelude.{◌≡◌, ◌≢◌, ℕ, zero, suc, ◌+◌, ◌-◌, ◌<◌, false, List, [], ◌∷◌, ◌++◌, length, drop, Ok}
use Rattle.std.specs.List.{AllByRecursion}
use Rattle.sdc_base.specs.Blanks.{trim}
use Rattle.sdc_base.specs.Lines.{IsLine, HasNoFeed, text_of_lines}
use Rattle.sdc_base.specs.Trees.{Tree, codes, code_in, IsCodeTree}
use Rattle.code_trees.specs.Depths.{depth_of}
use Rattle.hierarchy.specs.Lead.{begins_with, lead_of}

-- so many leads, one after another
abbrev pub leads_text : List ℕ → ℕ → List ℕ
leads_text lead zero = []
leads_text lead (suc n) = lead ++ leads_text lead n

-- the line of a node at a place of the tree: a lead for each level below the first, and its code
abbrev pub node_line : List ℕ → Tree → ℕ → List ℕ → List ℕ
node_line lead tree place code = leads_text lead (depth_of tree place - 1) ++ code

-- the lines of nodes of the tree, of which the first stands at this place
abbrev pub node_lines : List ℕ → Tree → ℕ → Tree → List (List ℕ)
node_lines lead tree place [] = []
node_lines lead tree place (node ∷ nodes) = node_line lead tree place node.0 ∷ node_lines lead tree (place + 1) nodes

-- the text of a tree: a line for each node but the total, each ended by LF
abbrev pub lead_text : List ℕ → Tree → List ℕ
lead_text lead tree = text_of_lines (node_lines lead tree 1 (drop 1 tree))

-- A code that the lead form can write: it has a byte, doesn't begin with the lead, has no blank at its ends,
-- no LF in it and no CR at its end.
pub record IsWritable (lead code : List ℕ) : Type 0 where
  pub has_byte : code ≢ []
  pub front : begins_with lead code ≡ false
  pub trimmed : trim code ≡ code
  pub line : IsLine code

-- the text of a tree is read as that tree
abbrev pub LeadTextIsRead : Type 0
LeadTextIsRead =
    (lead : List ℕ) (tree : Tree) → 0 < length lead → HasNoFeed lead → IsCodeTree tree
    → AllByRecursion (IsWritable lead) (codes (drop 1 tree)) →
    lead_of lead (code_in tree 0) (lead_text lead tree) ≡ Ok tree
