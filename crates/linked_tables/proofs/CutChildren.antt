-- The children of a code in a cut tree as the chain of its first child and the next siblings.
use Rattle.std.proofs.Common.{◌≡◌, ℕ, Bool, true, false, [], not, ◌==◌, length, is_some, if◌then◌else◌, None, Some, refl}
use Rattle.sdc_base.specs.Trees.{children}
use Rattle.sdc_base.specs.CutTrees.{CutTree, children_within, goes_below}
use Rattle.code_trees.specs.Children.{first_child}
use Rattle.code_trees.proofs.Children.{children_from, children-are, first-is_child, has-children, IsChild}
use Rattle.linked_tables.specs.BookCells.{first_child_within}

pub children-within-are : (cut : CutTree) (above : ℕ) → children_within cut above ≡ children_from cut.tree above (first_child_within cut above)
children-within-are cut above = by (goes_below cut above)
  where
    by : (b : Bool) → (if b then children cut.tree above else []) ≡ children_from cut.tree above (if b then first_child cut.tree above else None)
    by true = children-are cut.tree above
    by false = refl

pub first-within-is_child : (cut : CutTree) (above child : ℕ) → first_child_within cut above ≡ Some child → IsChild cut.tree above 0 child
first-within-is_child cut above child is = by (goes_below cut above) is
  where
    by : (b : Bool) → (if b then first_child cut.tree above else None) ≡ Some child → IsChild cut.tree above 0 child
    by true h = first-is_child cut.tree above child h
    by false h = cc

-- there is a first child exactly where there are children
pub has-children-within : (cut : CutTree) (above : ℕ) → is_some (first_child_within cut above) ≡ not (length (children_within cut above) == 0)
has-children-within cut above = by (goes_below cut above)
  where
    by : (b : Bool) → is_some (if b then first_child cut.tree above else None) ≡ not (length (if b then children cut.tree above else []) == 0)
    by true = has-children cut.tree above
    by false = refl
