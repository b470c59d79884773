use Rattle.std.proofs.Common.{subst, sym, ◌∙◌, ap, ◌++◌, ◌∷◌, [], None}
use Rattle.sdc_base.specs.Trees.{Tree, IsCodeTree}
use Rattle.code_trees.proofs.Growth.{total-is_tree}
use Rattle.code_trees.proofs.growing.total_alone.Goals as goal

pub returns-clause-tree : goal.returns-clause-tree
returns-clause-tree c =
    let made = c.in_ok-push.ensures ∙ ap (λ (old : Tree). old ++ (c.args.total.now, None) ∷ []) c.new-nodes.ensures in
    subst IsCodeTree (sym made) (total-is_tree c.args.total.now)
