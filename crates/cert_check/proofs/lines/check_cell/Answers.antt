use Rattle.std.proofs.Common.{◌∙◌, sym}
use Rattle.std.proofs.lemmas.Result.{err_from_is_err_and}
use Rattle.cert_check.proofs.PlaceWalks.{above_faults, below_faults, both_pass}
use Rattle.cert_check.proofs.lines.check_cell.Goals as goal

pub returns-in_err-check_place-clause-err : goal.returns-in_err-check_place-clause-err
returns-in_err-check_place-clause-err c =
    let p = err_from_is_err_and c.from_residual.result c.from_residual.ensures.1 in
    rw (p.1, p.2) (above_faults c.args.case.now.system.now c.args.case.now.cells.now c.args.hidden.now.flags c.args.lines.now c.args.number c.args.place c.index-case-number.result c.in_err-check_place.field-0.0 c.requires.number
    (sym c.is_primary.ensures ∙ c.if-not-is_primary.false) c.in_err-check_place.ensures.exact)

pub returns-in_err-check_place-2-clause-err : goal.returns-in_err-check_place-2-clause-err
returns-in_err-check_place-2-clause-err c =
    let p = err_from_is_err_and c.from_residual-in_err-check_place-2.result c.from_residual-in_err-check_place-2.ensures.1 in
    rw (p.1, p.2) (below_faults c.args.case.now.system.now c.args.case.now.cells.now c.args.hidden.now.flags c.args.lines.now c.args.number c.args.place c.index-case-number.result c.in_err-check_place-2.field-0.0 c.requires.number
    (sym c.is_primary.ensures ∙ c.if-not-is_primary.false) c.in_ok-check_place.ensures.exact c.in_err-check_place-2.ensures.exact)

pub returns-clause-ok : goal.returns-clause-ok
returns-clause-ok c =
    both_pass c.args.case.now.system.now c.args.case.now.cells.now c.args.hidden.now.flags c.args.lines.now c.args.number c.args.place c.index-case-number.result c.requires.number
    (sym c.is_primary.ensures ∙ c.if-not-is_primary.false) c.in_ok-check_place.ensures.exact c.in_ok-check_place-2.ensures.exact
