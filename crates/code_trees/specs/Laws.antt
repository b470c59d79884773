-- Laws of the flat form and of missing codes, in the words of their rules (own).
use Rattle.std.specs.Prelude.{◌≡◌, ℕ, ◌+◌, List, ◌++◌, slice_get, Some, Ok}
use Rattle.std.specs.List.{AllByRecursion}
use Rattle.sdc_base.specs.Trees.{Tree, codes, parent_at}
use Rattle.code_trees.specs.Among.{AreAmong}
use Rattle.code_trees.specs.Children.{code_at}
use Rattle.code_trees.specs.FlatForm.{flat_of}
use Rattle.code_trees.specs.MissingCodes.{with_codes}

-- in a flat tree the n-th code stands at place n, below the total; codes are numbered from 1
abbrev pub FlatIsInOrder : Type 0
FlatIsInOrder =
    (total : List ℕ) (below : List (List ℕ)) (tree : Tree) → flat_of total below ≡ Ok tree → (n : ℕ) (code : List ℕ)
    → slice_get below n ≡ Some code →
    (code_at tree (n + 1) ≡ Some code) × (parent_at tree (n + 1) ≡ Some 0)

-- The whole is the tree with more nodes behind it: each of them is a missing code right below the total, and each
-- missing code is there.
pub record IsCompleted (tree whole : Tree) (missing : List (List ℕ)) : Type 0 where
  pub more : Tree
  pub stays : whole ≡ tree ++ more
  pub under_total : AllByRecursion (λ node. node.1 ≡ Some 0) more
  pub wanted : AreAmong (codes more) missing
  pub there : AreAmong missing (codes whole)

-- a tree with missing codes is the tree as it was, and what it lacked behind it
abbrev pub MissingStandLast : Type 0
MissingStandLast =
    (tree whole : Tree) (missing : List (List ℕ)) → with_codes 1 tree missing ≡ Ok whole
    → IsCompleted tree whole missing
