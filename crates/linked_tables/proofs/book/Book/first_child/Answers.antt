use Rattle.std.proofs.Common.{ap, sym, []}
use Rattle.sdc_base.specs.Trees.{Tree}
use Rattle.sdc_base.proofs.GrowingLists.{read-none}
use Rattle.code_trees.specs.Children.{first_child}
use Rattle.linked_tables.proofs.book.Book.first_child.Goals as goal

pub returns-in-None : goal.returns-in-None
returns-in-None c = ap (λ (tree : Tree). first_child tree c.args.place) (sym (read-none c.args.self.now.trees c.args.variable [] c.in-None.ensures))
