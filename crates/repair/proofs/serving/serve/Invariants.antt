use Rattle.repair.specs.HidingOrder.{protected_case}
use Rattle.repair.specs.KeptWorlds.{AreServedBefore, shown_count}
use Rattle.repair.specs.QuestionSteps.{IsReadyForRepair, IsRepairProgress}
use Rattle.repair.proofs.serving.serve.Given as goal

abbrev pub invariant-repairs : goal.invariant-repairs
invariant-repairs l = record {
  ready : IsReadyForRepair l.task l.scratch l.progress;
  served : AreServedBefore (protected_case l.task.system.now l.task.cells.now) l.progress.hidden.flags l.place l.progress.tables;
  repaired : IsRepairProgress l.task l.place l.fn.progress l.progress;
}

abbrev pub decreases-repairs : goal.decreases-repairs
decreases-repairs l = shown_count l.progress.hidden.flags
