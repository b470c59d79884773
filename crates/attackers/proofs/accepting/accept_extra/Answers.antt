use Rattle.std.proofs.Common.{Result, subst}
use Rattle.sdc_base.specs.Answers.{Gives}
use Rattle.repair.specs.HidingOrder.{protected_case}
use Rattle.attackers.specs.declared.faults.ExtraFault.{ExtraFault}
use Rattle.attackers.specs.ExtraFaults.{extra_fault_of, extra_fault}
use Rattle.attackers.proofs.AcceptedExtras.{accepted}
use Rattle.attackers.proofs.accepting.accept_extra.Goals as goal

pub returns-clause-accepted : goal.returns-clause-accepted
returns-clause-accepted c =
    λ is.
    accepted (protected_case c.args.system.now c.args.cells.now) c.args.soles.now c.args.hidden.now.flags c.args.worlds.now c.args.extra.now c.requires.ground.each_cell c.requires.worlds
    (subst (λ (r : Result (Unit {0}) ExtraFault). Gives extra_fault_of (λ u. u) r (extra_fault (protected_case c.args.system.now c.args.cells.now) c.args.soles.now c.args.hidden.now.flags c.args.worlds.now c.args.extra.now)) is c.extra_cells_fault.ensures.exact)
