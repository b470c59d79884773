use Rattle.std.proofs.Common.{◌<◌, ◌++◌, ◌∷◌, [], ℕ, List, Option, arith, ap, sym, subst, ◌∙◌, append_assoc}
use Rattle.sdc_base.specs.Cells.{cut_tree}
use Rattle.code_trees.specs.Children.{next_sibling}
use Rattle.code_trees.proofs.Children.{children_from, children-next, left_from, next-is_child, next-smaller}
use Rattle.linked_tables.proofs.CutChildren.{children-within-are, first-within-is_child}
use Rattle.modular_plan.proofs.entry.codes_in.Goals as goal

pub children-init : goal.children-init
children-init c =
    let cut = cut_tree c.args.book.now.trees c.args.dimension in
    let tree = cut.tree in
    let parent = c.args.parent in
    record {
      rest = ap (λ (codes : List ℕ). codes ++ children_from tree parent c.first_child_within-met.result) (c.in_ok-push.ensures.items ∙ ap (λ (codes : List ℕ). codes ++ parent ∷ []) c.new-codes.ensures.items)
          ∙ ap (λ (codes : List ℕ). parent ∷ codes) (ap (children_from tree parent) c.first_child_within-met.ensures ∙ sym (children-within-are cut parent));
      child = λ child is. first-within-is_child cut parent child (sym c.first_child_within-met.ensures ∙ is);
    }

pub children-smaller : goal.children-smaller
children-smaller c =
    let cut = cut_tree c.args.book.now.trees c.args.dimension in
    let tree = cut.tree in
    let one = c.children.invariant.child c.in-Some.child c.in-Some.is in
    subst (λ (met : Option ℕ). left_from tree c.next_sibling-met.result < left_from tree met) (sym c.in-Some.is) (next-smaller tree c.args.parent c.in-Some.child c.next_sibling-met.result one c.next_sibling-met.ensures)

pub children-preserved : goal.children-preserved
children-preserved c =
    let cut = cut_tree c.args.book.now.trees c.args.dimension in
    let tree = cut.tree in
    let parent = c.args.parent in
    let child = c.in-Some.child in
    let one = c.children.invariant.child child c.in-Some.is in
    let old : List ℕ = c.children.codes.items in
    let left : List ℕ = children_from tree parent (next_sibling tree child) in
    record {
      rest = ap (λ (codes : List ℕ). codes ++ children_from tree parent c.next_sibling-met.result) c.in_ok-push-2.ensures.items
          ∙ ap (λ (met : Option ℕ). (old ++ child ∷ []) ++ children_from tree parent met) c.next_sibling-met.ensures
          ∙ append_assoc old (child ∷ []) left
          ∙ ap (λ (codes : List ℕ). old ++ codes) (sym (children-next tree parent child one.within one.parent))
          ∙ ap (λ (met : Option ℕ). old ++ children_from tree parent met) (sym c.in-Some.is)
          ∙ c.children.invariant.rest;
      child = λ next is.
          let more = next-is_child tree parent child next one.within one.parent (sym c.next_sibling-met.ensures ∙ is) in
          record { behind = omega arith; within = more.within; parent = more.parent };
    }
