use Rattle.std.proofs.Common.{◌≡◌, ◌∙◌, ap, ◌++◌, [], ◌∷◌, None}
use Rattle.code_trees.specs.Entries.{nodes_of}
use Rattle.sdc_base.specs.Trees.{find}
use Rattle.code_trees.proofs.MapEntries.{insert-new}
use Rattle.code_trees.proofs.entries.Nodes.push.Goals as goal

pub returns : goal.returns
returns c =
    let entries = c.self.inside.map.entries in
    let none : find (nodes_of entries) c.in_ok-code.code.items ≡ None = ap (find (nodes_of entries)) c.in_ok-code.ensures.items ∙ ap (λ tree. find tree c.args.code.now) c.self.view_is ∙ c.requires in
    ap nodes_of c.in_ok-insert.ensures.entries
    ∙ insert-new entries c.in_ok-code.code c.args.parent none
    ∙ ap (λ tree. tree ++ (c.in_ok-code.code.items, c.args.parent) ∷ []) c.self.view_is
    ∙ ap (λ code. c.args.self.now ++ (code, c.args.parent) ∷ []) c.in_ok-code.ensures.items
