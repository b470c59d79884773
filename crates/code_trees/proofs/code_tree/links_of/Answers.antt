use Rattle.std.proofs.Common.{◌≡◌, ℕ, ◌-◌, ◌+◌, ◌<◌, length, ap, sym, ◌∙◌, arith, List, Option, None, slice_index_or}
use Rattle.std.proofs.Math.ListN.{length-set}
use Rattle.sdc_base.specs.Trees.{parent_at}
use Rattle.code_trees.specs.Children.{next_sibling}
use Rattle.code_trees.specs.Links.{with_child, sibling_of}
use Rattle.code_trees.proofs.Climbs.{parent-known, child-linked, sibling-linked, siblings-more, length-with_child}
use Rattle.code_trees.proofs.code_tree.links_of.Goals as goal

pub link-sibling-requires : goal.link-sibling-requires
link-sibling-requires c = λ above p.
    let known = parent-known c.args.nodes.now c.requires.tree (c.places.place - 1) (omega arith) above (sym c.parent_at-parent.ensures ∙ p) in
    omega (arith, known)

pub places-preserved : goal.places-preserved
places-preserved c =
    let tree = c.args.nodes.now in
    let k = c.places.place - 1 in
    let next : k + 1 ≡ c.places.place = omega arith in
    let inside : k < length tree = omega arith in
    let child : c.link-sibling.new.firsts.items ≡ with_child c.places.firsts.items (parent_at tree k) k =
    c.link-sibling.ensures.child ∙ ap (λ (parent : Option ℕ). with_child c.places.firsts.items parent k) c.parent_at-parent.ensures in
    let sibling : c.link-sibling.result ≡ next_sibling tree k =
    c.link-sibling.ensures.sibling ∙ ap (sibling_of c.places.firsts.items) c.parent_at-parent.ensures ∙ sibling-linked tree c.places.firsts.items k c.places.place next c.places.invariant.children in
    record {
      within = omega arith;
      firsts = ap length child ∙ length-with_child c.places.firsts.items (parent_at tree k) k ∙ c.places.invariant.firsts;
      nexts = length-set c.places.nexts.items k c.link-sibling.result ∙ c.places.invariant.nexts;
      children = λ place. ap (λ (firsts : List (Option ℕ)). slice_index_or firsts place None) child ∙ child-linked tree c.requires.tree c.places.firsts.items k c.places.place next inside c.places.invariant.firsts c.places.invariant.children place;
      siblings = siblings-more c.places.nexts.items k c.link-sibling.result (next_sibling tree) c.places.place next (omega arith) sibling c.places.invariant.siblings;
    }
