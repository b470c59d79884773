use Rattle.std.proofs.Common.{ap, sym, [], length}
use Rattle.sdc_base.specs.Trees.{Tree}
use Rattle.sdc_base.proofs.GrowingLists.{read-none}
use Rattle.linked_tables.proofs.book.Book.size.Goals as goal

pub returns-in-None-clause-size : goal.returns-in-None-clause-size
returns-in-None-clause-size c = ap (λ (tree : Tree). length tree) (sym (read-none c.args.self.now.trees c.args.variable [] c.in-None.ensures))
