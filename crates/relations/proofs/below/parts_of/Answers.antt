use Rattle.std.proofs.Common.{◌≡◌, ◌<◌, ◌≤◌, ◌+◌, ◌-◌, ◌++◌, [], ℕ, List, Option, length, slice_index, slice_index_or, slice_set, option_to_list, arith, ap, sym, subst, ◌∙◌}
use Rattle.std.specs.Option.{option_map_or}
use Rattle.sdc_base.specs.Relations.{number_among, parts_among}
use Rattle.linked_tables.specs.BookCells.{cells}
use Rattle.code_trees.specs.Children.{first_child, next_sibling}
use Rattle.code_trees.proofs.Children.{children_from, children-are, children-next, first-is_child, left_from, next-is_child, next-room, next-smaller}
use Rattle.sdc_base.proofs.GrowingLists.{option-front, option-most}
use Rattle.relations.proofs.below.parts_of.Goals as goal

pub children-init : goal.children-init
children-init c =
    let book = c.args.book.now in
    let tree = slice_index_or book.trees c.args.variable [] in
    let above = slice_index c.args.name.now c.args.variable in
    let parts : List ℕ → List ℕ = parts_among (cells book) c.args.name.now c.args.variable in
    let met = c.first_child-met.ensures ∙ ap (first_child tree) c.code_for.ensures in
    let none : length c.new-parts.result.items ≡ 0 = ap (λ (one : List ℕ). length one) c.new-parts.ensures.items in
    record {
      rest = ap (λ (done : List ℕ). done ++ parts (children_from tree above c.first_child-met.result)) c.new-parts.ensures.items
          ∙ ap parts (ap (children_from tree above) met ∙ sym (children-are tree above));
      child = λ child is. first-is_child tree above child (sym met ∙ is);
      few = omega (arith, none);
      named = λ k d h. absurd (omega (arith, none, h));
    }

pub children-smaller : goal.children-smaller
children-smaller c =
    let book = c.args.book.now in
    let tree = slice_index_or book.trees c.args.variable [] in
    let above = slice_index c.args.name.now c.args.variable in
    let one = c.children.invariant.child c.in-Some.child c.in-Some.is in
    subst (λ (met : Option ℕ). left_from tree c.next_sibling-met.result < left_from tree met) (sym c.in-Some.is) (next-smaller tree above c.in-Some.child c.next_sibling-met.result one c.next_sibling-met.ensures)

pub children-preserved : goal.children-preserved
children-preserved c =
    let book = c.args.book.now in
    let name = c.args.name.now in
    let variable = c.args.variable in
    let child = c.in-Some.child in
    let tree = slice_index_or book.trees variable [] in
    let above = slice_index name variable in
    let parts : List ℕ → List ℕ = parts_among (cells book) name variable in
    let one = c.children.invariant.child child c.in-Some.is in
    let old = c.children.parts.items in
    let part = number_among (cells book) (slice_set name variable child) in
    let added : length c.add_part.new.parts.items ≤ length old + 1 = subst (λ (new : List ℕ). length new ≤ length old + 1) (sym c.in_ok-add_part.ensures.added) (option-most old part) in
    let room = c.children.invariant.few in
    let before : length old ≤ child = subst (λ (met : Option ℕ). length old ≤ option_map_or (λ child. child) met (length tree)) c.in-Some.is room in
    record {
      rest = ap (λ (new : List ℕ). new ++ parts (children_from tree above c.next_sibling-met.result)) c.in_ok-add_part.ensures.added
          ∙ ap (λ (met : Option ℕ). (old ++ option_to_list part) ++ parts (children_from tree above met)) c.next_sibling-met.ensures
          ∙ option-front old part (parts (children_from tree above (next_sibling tree child)))
          ∙ ap (λ (codes : List ℕ). old ++ parts codes) (sym (children-next tree above child one.within one.parent))
          ∙ ap (λ (met : Option ℕ). old ++ parts (children_from tree above met)) (sym c.in-Some.is)
          ∙ c.children.invariant.rest;
      child = λ next is.
          let more = next-is_child tree above child next one.within one.parent (sym c.next_sibling-met.ensures ∙ is) in
          record { behind = omega arith; within = more.within; parent = more.parent };
      few = next-room tree above child (length c.add_part.new.parts.items) c.next_sibling-met.result one c.next_sibling-met.ensures (omega (arith, added, before));
      named = c.in_ok-add_part.ensures.within;
    }
