use Rattle.std.proofs.Common.{◌≡◌, ℕ, ◌-◌, List, ◌++◌, ◌∷◌, [], Some, length, slice_index, slice_get, ap, sym, refl, ◌∙◌, subst}
use Rattle.std.proofs.lemmas.Option.{slice_get_read, get_or_from_slice_get}
use Rattle.sdc_base.specs.Trees.{Tree, IsCodeTree, IsUnder}
use Rattle.code_trees.specs.Growing.{tree_with_node}
use Rattle.code_trees.specs.Path.{IsPath, next_path}
use Rattle.code_trees.proofs.Growth.{grown-is_tree, under-inside}
use Rattle.code_trees.proofs.Paths.{path-next}
use Rattle.code_trees.proofs.level_form.place_code.Goals as goal

pub returns-clause-tree : goal.returns-clause-tree
returns-clause-tree c =
    let tree = c.args.nodes.now in
    let path = c.args.path.now.items in
    let at : slice_get path c.args.depth ≡ Some c.index.result.now = slice_get_read path (length path) c.args.depth c.index.result.now refl c.requires.level.0 c.index.ensures in
    let read : c.index.result.now ≡ slice_index path c.args.depth = sym (get_or_from_slice_get path c.args.depth c.index.result.now 0 at) in
    let nodes : c.push.new.self ≡ tree_with_node tree c.args.code.now (slice_index path c.args.depth) = c.in_ok-push.ensures ∙ ap (tree_with_node tree c.args.code.now) read in
    let under : IsUnder tree (length tree - 1) (slice_index path c.args.depth) = (length path - 1 - c.args.depth, c.requires.path.above c.args.depth c.requires.level.0) in
    subst IsCodeTree (sym nodes)
    (grown-is_tree tree c.requires.tree c.args.code.now (slice_index path c.args.depth) c.requires.new c.requires.fewer_than_5001 under (c.args.depth, c.requires.level.1, c.requires.path.deep c.args.depth c.requires.level.0) (under-inside tree c.requires.tree (slice_index path c.args.depth) under))

pub returns-clause-path : goal.returns-clause-path
returns-clause-path c =
    let tree = c.args.nodes.now in
    let path = c.args.path.now.items in
    let at : slice_get path c.args.depth ≡ Some c.index.result.now = slice_get_read path (length path) c.args.depth c.index.result.now refl c.requires.level.0 c.index.ensures in
    let read : c.index.result.now ≡ slice_index path c.args.depth = sym (get_or_from_slice_get path c.args.depth c.index.result.now 0 at) in
    let nodes : c.push.new.self ≡ tree_with_node tree c.args.code.now (slice_index path c.args.depth) = c.in_ok-push.ensures ∙ ap (tree_with_node tree c.args.code.now) read in
    let items : c.push-2.new.self.items ≡ next_path path c.args.depth (length tree) =
    c.in_ok-push-2.ensures.items ∙ ap (λ (front : List ℕ). front ++ c.len-place.result ∷ []) c.truncate.ensures.items ∙ ap (next_path path c.args.depth) c.len-place.ensures.len in
    subst (λ (grows : Tree). IsPath grows c.push-2.new.self.items) (sym nodes)
    (subst (IsPath (tree_with_node tree c.args.code.now (slice_index path c.args.depth))) (sym items) (path-next tree c.requires.tree.has_total path c.requires.path c.args.code.now c.args.depth c.requires.level.0))
