-- A depth that no code of a tree exceeds leaves nothing out (own).
use Rattle.std.specs.Prelude.{◌≡◌, ℕ, ◌<◌, true, length}
use Rattle.std.specs.List.{range_with_len}
use Rattle.sdc_base.specs.Trees.{IsCodeTree, Tree, children}
use Rattle.sdc_base.specs.CutTrees.{CutTree, children_within, codes_within, is_within, whole_depth}

-- a cut tree has all codes of its tree, and below each code all its children
pub record HasAll (cut : CutTree) : Type 0 where
  pub codes : codes_within cut ≡ range_with_len 0 (length cut.tree)
  pub below : (above : ℕ) → children_within cut above ≡ children cut.tree above

-- so it is at every depth that no code exceeds, and at the depth of whole tables
pub record DeeperChangesNothing : Type 0 where
  pub deep : (cut : CutTree) → IsCodeTree cut.tree → ((code : ℕ) → code < length cut.tree → is_within cut code ≡ true)
      → HasAll cut
  pub whole : (tree : Tree) → IsCodeTree tree → HasAll (record { tree = tree; depth = whole_depth })
