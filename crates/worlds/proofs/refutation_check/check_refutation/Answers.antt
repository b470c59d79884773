use Rattle.std.proofs.Common.{◌↔◌, IsOk, sym, subst}
use Rattle.worlds.specs.RefutationFaults.{refutation_fault, IsGivenRefutation}
use Rattle.worlds.proofs.TrueTests.{ok_where}
use Rattle.worlds.proofs.RefutationLaws.{refutation_law, no_world}
use Rattle.worlds.proofs.refutation_check.check_refutation.Goals as goal

pub returns-clause-refutation : goal.returns-clause-refutation
returns-clause-refutation c =
    subst (λ r. IsOk r ↔ IsGivenRefutation c.args.system.now c.args.cells.now c.args.hidden.now.flags c.args.cell c.args.side c.args.multipliers.now) (sym c.first_refutation_fault.ensures.exact)
    (ok_where (IsGivenRefutation c.args.system.now c.args.cells.now c.args.hidden.now.flags c.args.cell c.args.side c.args.multipliers.now) (refutation_fault c.args.system.now c.args.cells.now c.args.hidden.now.flags c.args.cell c.args.side c.args.multipliers.now)
    (refutation_law c.args.system.now c.args.cells.now c.args.hidden.now.flags c.args.cell c.args.side c.args.multipliers.now c.requires.asked))

pub returns-clause-unprotected : goal.returns-clause-unprotected
returns-clause-unprotected c = λ ok.
    no_world c.args.system.now c.args.cells.now c.args.hidden.now.flags c.args.cell c.args.side c.args.multipliers.now c.requires.ground.each_cell c.requires.asked ((returns-clause-refutation c).0 ok)
