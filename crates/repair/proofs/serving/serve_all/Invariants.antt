use Rattle.repair.specs.HidingOrder.{protected_case}
use Rattle.repair.specs.KeptWorlds.{AreServedBefore}
use Rattle.repair.specs.QuestionSteps.{IsReadyForRepair, IsRepairedUpTo}
use Rattle.repair.proofs.serving.serve_all.Given as goal

abbrev pub invariant-places : goal.invariant-places
invariant-places l = record {
  ready : IsReadyForRepair l.task l.scratch l.progress;
  served : AreServedBefore (protected_case l.task.system.now l.task.cells.now) l.progress.hidden.flags l.place l.progress.tables;
  repaired : IsRepairedUpTo l.task l.place l.fn.progress.hidden.flags l.progress;
}
