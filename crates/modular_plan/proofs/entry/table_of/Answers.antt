use Rattle.std.proofs.Common.{[], sym, ◌∙◌}
use Rattle.sdc_base.proofs.GrowingLists.{read-none}
use Rattle.modular_plan.proofs.entry.table_of.Goals as goal

pub returns-in-None : goal.returns-in-None
returns-in-None c = c.empty.ensures ∙ sym (read-none c.args.book.now.tables c.args.t [] c.in-None.ensures)
