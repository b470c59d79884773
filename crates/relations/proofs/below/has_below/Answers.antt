use Rattle.std.proofs.Common.{ap, is_some, [], ◌∙◌, slice_index, slice_index_or}
use Rattle.code_trees.specs.Children.{first_child}
use Rattle.code_trees.proofs.Children.{has-children}
use Rattle.relations.proofs.below.has_below.Goals as goal

pub returns : goal.returns
returns c =
    let tree = slice_index_or c.args.book.now.trees c.args.variable [] in
    c.is_some.ensures ∙ ap is_some (c.first_child.ensures ∙ ap (first_child tree) c.code_for.ensures) ∙ has-children tree (slice_index c.args.name.now c.args.variable)
