use Rattle.std.proofs.Common.{◌≡◌, ◌∙◌, ◌++◌, ◌+◌, Ok, Err, Result, drop, get_or, flat_map, refl, sym, ap}
use Rattle.sdc_base.specs.Steps.{◌>>=◌}
use Rattle.std.proofs.lemmas.Result.{err_from_is_err_and}
use Rattle.attackers.specs.declared.faults.ExtraFault.{ExtraFault}
use Rattle.attackers.specs.AttackOrder.{attacks_on}
use Rattle.attackers.specs.ExtraFaults.{attacks_fault}
use Rattle.attackers.proofs.Listed.{rows_next}
use Rattle.attackers.proofs.meeting.check_rows.Goals as goal

pub returns-in_err-check_row : goal.returns-in_err-check_row
returns-in_err-check_row c =
    let lines = c.args.worlds.now ++ c.args.guards.now in
    let by = attacks_on c.args.soles.now c.args.asked.now in
    let row = get_or c.args.rows.now c.rows.row-index 0 in
    let p = err_from_is_err_and c.from_residual.result c.from_residual.ensures.1 in
    let own : attacks_fault c.args.cells.now c.args.soles.now lines (by row) ≡ Err c.in_err-check_row.field-0.0 = sym c.in_err-check_row.ensures in
    p.1 ∙ ap Err p.2
    ∙ sym (ap (λ (r : Result (Unit {0}) ExtraFault). r >>= λ _. attacks_fault c.args.cells.now c.args.soles.now lines (flat_map by (drop (c.rows.row-index + 1) c.args.rows.now))) own)
    ∙ sym (rows_next c.args.cells.now c.args.soles.now lines by c.args.rows.now c.rows.row-index row c.rows-test.true refl)
    ∙ c.rows.invariant

pub rows-preserved : goal.rows-preserved
rows-preserved c =
    let lines = c.args.worlds.now ++ c.args.guards.now in
    let by = attacks_on c.args.soles.now c.args.asked.now in
    let row = get_or c.args.rows.now c.rows.row-index 0 in
    let own : attacks_fault c.args.cells.now c.args.soles.now lines (by row) ≡ Ok tt = sym c.in_ok-check_row.ensures in
    sym (ap (λ (r : Result (Unit {0}) ExtraFault). r >>= λ _. attacks_fault c.args.cells.now c.args.soles.now lines (flat_map by (drop (c.rows.row-index + 1) c.args.rows.now))) own)
    ∙ sym (rows_next c.args.cells.now c.args.soles.now lines by c.args.rows.now c.rows.row-index row c.rows-test.true refl)
    ∙ c.rows.invariant
