use Rattle.std.proofs.Common.{◌≡◌, ℕ, ◌<◌, List, ◌++◌, ◌∷◌, [], Some, length, slice_index, slice_get, ap, sym, refl, ◌∙◌, subst, arith}
use Rattle.std.proofs.lemmas.Option.{slice_get_read, get_or_from_slice_get}
use Rattle.sdc_base.specs.Trees.{Tree}
use Rattle.code_trees.specs.Growing.{tree_with_node}
use Rattle.code_trees.specs.Path.{IsPath, next_path}
use Rattle.code_trees.proofs.Paths.{path-next}
use Rattle.hierarchy.proofs.lead_form.add_line.Goals as goal

pub returns-clause-path : goal.returns-clause-path
returns-clause-path c =
    let tree = c.args.nodes.now in
    let path = c.args.path.now.items in
    let h : c.args.leads < length path = omega arith in
    let at : slice_get path c.args.leads ≡ Some c.index.result.now = slice_get_read path (length path) c.args.leads c.index.result.now refl h c.index.ensures in
    let read : c.index.result.now ≡ slice_index path c.args.leads = sym (get_or_from_slice_get path c.args.leads c.index.result.now 0 at) in
    let nodes : c.add.new.nodes ≡ tree_with_node tree c.args.code.now (slice_index path c.args.leads) = c.in_ok-add.ensures.grows ∙ ap (tree_with_node tree c.args.code.now) read in
    let items : c.push.new.self.items ≡ next_path path c.args.leads (length tree) =
    c.in_ok-push.ensures.items ∙ ap (λ (front : List ℕ). front ++ c.len-place.result ∷ []) c.truncate.ensures.items ∙ ap (next_path path c.args.leads) c.len-place.ensures.len in
    subst (λ (grows : Tree). IsPath grows c.push.new.self.items) (sym nodes)
    (subst (IsPath (tree_with_node tree c.args.code.now (slice_index path c.args.leads))) (sym items) (path-next tree c.requires.tree.has_total path c.requires.path c.args.code.now c.args.leads h))
