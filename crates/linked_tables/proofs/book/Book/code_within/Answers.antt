use Rattle.std.proofs.Common.{◌≡◌, true, false, [], filter, slice_index, ap, sym, subst, ◌∙◌}
use Rattle.std.proofs.lemmas.Option.{get_or_from_slice_get}
use Rattle.sdc_base.specs.Trees.{IsCodeTree, Tree, parent_at, places_upward}
use Rattle.sdc_base.specs.CutTrees.{is_within}
use Rattle.sdc_base.specs.Cells.{cut_tree}
use Rattle.sdc_base.proofs.CutTrees.{alone-within, within-itself, within-step}
use Rattle.sdc_base.proofs.GrowingLists.{read-none}
use Rattle.sdc_base.proofs.Walks.{parent_is_earlier}
use Rattle.linked_tables.proofs.book.Book.code_within.Goals as goal

pub returns-in_default : goal.returns-in_default
returns-in_default c =
    ap (λ (tree : Tree). slice_index (filter (is_within (record { tree = tree; depth = c.args.dimension.depth })) (places_upward tree c.args.code)) 0) (sym (read-none c.args.self.now.trees c.args.dimension.variable [] c.in_default.ensures))

pub returns-in_default-parent : goal.returns-in_default-parent
returns-in_default-parent c =
    let trees = c.args.self.now.trees in
    let cut = cut_tree trees c.args.dimension in
    let tree : c.in-Some.tree.now ≡ cut.tree = sym (get_or_from_slice_get trees c.args.dimension.variable c.in-Some.tree.now [] (sym c.in-Some.ensures)) in
    let within : is_within cut c.upwards.met ≡ true = alone-within cut c.upwards.met (ap (λ (one : Tree). parent_at one c.upwards.met) (sym tree) ∙ sym c.in_default-parent.ensures) in
    let deeper : is_within cut c.upwards.met ≡ false = sym c.is_within.ensures ∙ c.upwards-test.true in
    let clash : true ≡ false = sym within ∙ deeper in
    cc

pub upwards-smaller : goal.upwards-smaller
upwards-smaller c = parent_is_earlier c.in-Some.tree.now c.len.ensures.tree c.upwards.met c.in-Some-parent.parent (sym c.in-Some-parent.ensures)

pub upwards-preserved : goal.upwards-preserved
upwards-preserved c =
    let trees = c.args.self.now.trees in
    let cut = cut_tree trees c.args.dimension in
    let tree : c.in-Some.tree.now ≡ cut.tree = sym (get_or_from_slice_get trees c.args.dimension.variable c.in-Some.tree.now [] (sym c.in-Some.ensures)) in
    let is : IsCodeTree cut.tree = subst IsCodeTree tree c.len.ensures.tree in
    let deeper : is_within cut c.upwards.met ≡ false = sym c.is_within.ensures ∙ c.upwards-test.true in
    sym (within-step cut is c.upwards.met c.in-Some-parent.parent (ap (λ (one : Tree). parent_at one c.upwards.met) (sym tree) ∙ sym c.in-Some-parent.ensures) deeper) ∙ c.upwards.invariant

pub returns : goal.returns
returns c =
    let trees = c.args.self.now.trees in
    let cut = cut_tree trees c.args.dimension in
    let tree : c.in-Some.tree.now ≡ cut.tree = sym (get_or_from_slice_get trees c.args.dimension.variable c.in-Some.tree.now [] (sym c.in-Some.ensures)) in
    let is : IsCodeTree cut.tree = subst IsCodeTree tree c.len.ensures.tree in
    let within : is_within cut c.upwards.met ≡ true = sym c.is_within.ensures ∙ c.upwards-test.false in
    sym (within-itself cut is c.upwards.met within) ∙ c.upwards.invariant
