use Rattle.std.proofs.Common.{◌∙◌, sym}
use Rattle.attackers.proofs.Listed.{cells_of_needs, subjects_of_needs}
use Rattle.attackers.proofs.accepting.extra_cells_fault.Goals as goal

pub check_guarding-requires-clause-needs : goal.check_guarding-requires-clause-needs
check_guarding-requires-clause-needs c =
    cells_of_needs c.args.pattern.now.cells.now c.args.soles.now c.as_slice-2.result.now c.as_slice-3.result.now c.args.extra.now.needs c.as_slice-3.ensures (sym c.in_ok-check_need_cells.ensures)

pub check_guarding-requires-clause-subjects : goal.check_guarding-requires-clause-subjects
check_guarding-requires-clause-subjects c =
    subjects_of_needs c.args.pattern.now.cells.now c.args.soles.now c.as_slice-flags.result.now c.as_slice.result.now c.as_slice-2.result.now c.as_slice-3.result.now c.args.extra.now.needs (c.as_slice-2.ensures ∙ sym c.as_slice.ensures) c.as_slice-3.ensures (sym c.in_ok-check_cells.ensures) (sym c.in_ok-check_need_cells.ensures)
