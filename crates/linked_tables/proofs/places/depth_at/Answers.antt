use Rattle.std.proofs.Common.{◌≡◌, ap, [], ◌∙◌, slice_index_or}
use Rattle.sdc_base.specs.Trees.{Tree}
use Rattle.sdc_base.specs.CutTrees.{depth_in}
use Rattle.sdc_base.proofs.CutTrees.{depth-is, depth-past}
use Rattle.linked_tables.proofs.places.depth_at.Goals as goal

pub returns-in-Some-depth : goal.returns-in-Some-depth
returns-in-Some-depth c =
    let tree : c.in-Some.tree.now ≡ slice_index_or c.args.trees.now c.args.variable [] = c.in-Some.ensures.lookup.3.1 [] in
    depth-is c.in-Some.tree.now c.len.ensures.tree c.in-Some-depth.depth c.args.code c.in-Some-depth.ensures ∙ ap (λ (one : Tree). depth_in one c.args.code) tree

pub returns-in-None : goal.returns-in-None
returns-in-None c =
    let tree : c.in-Some.tree.now ≡ slice_index_or c.args.trees.now c.args.variable [] = c.in-Some.ensures.lookup.3.1 [] in
    depth-past c.in-Some.tree.now c.args.code c.in-None.ensures ∙ ap (λ (one : Tree). depth_in one c.args.code) tree
