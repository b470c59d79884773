use Rattle.std.proofs.Common.{◌≡◌, ℕ, ◌+◌, ◌<◌, ◌≤◌, length, ap, sym, ◌∙◌, arith, subst, slice_index, Option, Some, length-append, List}
use Rattle.std.specs.Option.{option_map_or}
use Rattle.sdc_base.specs.Trees.{climb}
use Rattle.code_trees.specs.Links.{AreDepths}
use Rattle.code_trees.proofs.Climbs.{parent-known, depth-next, depths-push, small-push, depth-small}
use Rattle.code_trees.proofs.code_tree.depths_of.Goals as goal

pub depth_under-depth-requires-clause-known : goal.depth_under-depth-requires-clause-known
depth_under-depth-requires-clause-known c = λ above p.
    let known = parent-known c.args.nodes.now c.requires c.places.place (omega arith) above (sym c.parent_at.ensures ∙ p) in
    omega (arith, known, ap length c.deref.ensures.value)

pub places-preserved : goal.places-preserved
places-preserved c =
    let tree = c.args.nodes.now in
    let old = c.places.depths.items in
    let inside : c.places.place < length tree = omega arith in
    let depth : c.depth_under-depth.result ≡ option_map_or (λ above. slice_index old above + 1) c.parent_at.result 0 =
    c.depth_under-depth.ensures ∙ ap (λ (depths : List ℕ). option_map_or (λ above. slice_index depths above + 1) c.parent_at.result 0) c.deref.ensures.value in
    let told = depth ∙ ap (λ (parent : Option ℕ). option_map_or (λ above. slice_index old above + 1) parent 0) c.parent_at.ensures in
    let items = sym c.in_ok-push.ensures.items in
    record {
      made = omega (arith, ap length c.in_ok-push.ensures.items, length-append {A = ℕ});
      small = subst (λ (depths : List ℕ). (place : ℕ) → place < c.places.place + 1 → slice_index depths place ≤ place) items
          (small-push old c.places.place c.depth_under-depth.result c.places.invariant.made c.places.invariant.small (subst (λ d. d ≤ c.places.place) (sym told) (depth-small tree c.requires old c.places.place inside c.places.invariant.small)));
      climbs = subst (AreDepths tree (c.places.place + 1)) items
          (depths-push tree old c.places.place c.depth_under-depth.result c.places.invariant.made c.places.invariant.climbs (subst (λ d. climb tree d c.places.place ≡ Some 0) (sym told) (depth-next tree c.requires old c.places.place inside c.places.invariant.climbs)));
    }
