use Rattle.std.proofs.Common.{[], sym, ◌∙◌}
use Rattle.sdc_base.proofs.GrowingLists.{read-none}
use Rattle.linked_tables.specs.BookCells.{cells}
use Rattle.hypercube.proofs.search.name_of.Goals as goal

pub returns-in-None : goal.returns-in-None
returns-in-None c = c.empty.ensures ∙ sym (read-none (cells c.args.book.now) c.args.cell [] c.in-None.ensures)
