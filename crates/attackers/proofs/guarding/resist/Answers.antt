use Rattle.std.proofs.Common.{◌≡◌, ◌∙◌, refl, List, Bool, length, subst}
use Rattle.std.proofs.Math.Seq.{take-length}
use Rattle.certificate.specs.declared.certificate.WorldLine.{WorldLine}
use Rattle.certificate.specs.declared.extra.ExtraNeed.{ExtraNeed}
use Rattle.attackers.specs.declared.attack.Attack.{Attack}
use Rattle.repair.specs.declared.progress.Progress.{Progress}
use Rattle.attackers.specs.ContributorTasks.{AreGuardsOf, AreHeldBefore, AreHeldOr, IsHalted}
use Rattle.attackers.proofs.Halting.{stops_told}
use Rattle.attackers.proofs.guarding.resist.Goals as goal

pub returns-in-Err-clause-stopped : goal.returns-in-Err-clause-stopped
returns-in-Err-clause-stopped c =
    let task = c.args.task.now in
    let flags : c.new.result ≡ c.args.first.now.flags = c.new.ensures ∙ c.in-Ok.ensures.items_if_clones_equal (λ x y is. is) ∙ c.as_slice.ensures in
    let halted : IsHalted task c.args.first.now.flags c.guard_all-outcome.new.progress c.in-Err.row_fault.fault c.in-Err.row_fault.row =
    subst (λ (f : List Bool). IsHalted task f c.guard_all-outcome.new.progress c.in-Err.row_fault.fault c.in-Err.row_fault.row) flags c.in-Err.ensures.err in
    stops_told task c.args.first.now.flags c.guard_all-outcome.new.progress c.in-Err.row_fault.fault c.in-Err.row_fault.row c.guard_all-outcome.new.progress.reasons c.empty-in-Err.result c.stop_with.result refl c.empty-in-Err.ensures c.stop_with.ensures.fault c.stop_with.ensures.row c.stop_with.ensures.extras c.stop_with.ensures.dropped halted

pub narrow-requires-clause-ready : goal.narrow-requires-clause-ready
narrow-requires-clause-ready c =
    let task = c.args.task.now in
    let progress : Progress WorldLine ExtraNeed = c.guard_all-outcome.new.progress in
    let held : AreHeldBefore task (length task.attacks.now) progress = subst (AreHeldOr task (length task.attacks.now) progress) c.in-None.is c.in-Ok-outcome.ensures.ok in
    record {
      begins_permitted = c.requires.permitted;
      set = c.guard_all-outcome.ensures.ready;
      holds = subst (λ (l : List Attack). AreGuardsOf task progress.hidden.flags l progress.tables) (take-length task.attacks.now) held;
    }
