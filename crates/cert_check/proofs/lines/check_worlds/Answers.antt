use Rattle.std.proofs.Common.{◌∙◌, ap, sym, Err}
use Rattle.cert_check.specs.declared.faults.CheckFault.TheVariants as fault
use Rattle.cert_check.proofs.PlaceWalks.{lines_over}
use Rattle.cert_check.proofs.lines.check_worlds.Goals as goal

pub returns-then-place-lines-clause-exact : goal.returns-then-place-lines-clause-exact
returns-then-place-lines-clause-exact c =
    ap (λ m. Err (fault.WorldCell m)) c.number_of.ensures
    ∙ sym (c.cells.invariant.rest ∙ lines_over c.args.case.now.system.now c.args.case.now.cells.now c.args.hidden.now.flags c.args.lines.now c.cells.number c.cells.place c.cells-test.false c.if-place-lines.true)
