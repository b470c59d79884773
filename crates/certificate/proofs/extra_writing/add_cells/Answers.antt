use Rattle.std.proofs.Common.{rules}
use Rattle.certificate.proofs.ExtraSteps.{cells_appended}
use Rattle.certificate.proofs.extra_writing.add_cells.Goals as goal

pub returns-clause-text : goal.returns-clause-text
returns-clause-text c = rw (c.in_ok-add-2.ensures, c.in_ok-add_all_with_mark.ensures.text, c.in_ok-add.ensures) (cells_appended c.args.text.now c.args.cells.now (search rules))
