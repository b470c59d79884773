use Rattle.std.proofs.Common.{List, ℕ, sym, subst, ◌∙◌}
use Rattle.microdata.specs.Keeping.{AreSeen}
use Rattle.microdata.proofs.closing.closed_variable.Goals as goal

pub tree_of_source-requires-clause-seen : goal.tree_of_source-requires-clause-seen
tree_of_source-requires-clause-seen c =
    subst (λ (codes : List (List ℕ)). AreSeen c.args.variable.field.source (record { codes = codes; nodes = c.args.variable.seen.nodes })) (sym (c.as_slice.ensures ∙ c.in_ok-texts.ensures)) c.requires.seen
