use Rattle.std.proofs.Common.{vec_len, List, Bool}
use Rattle.worlds.specs.declared.refuted.Refuted.{Refuted}
use Rattle.worlds.specs.ProtectFaults.{asked_of}
use Rattle.repair.specs.HidingOrder.{protected_case}
use Rattle.repair.specs.CellTrials.{AreKept, AreReusableTables, AnswerTrials}
use Rattle.repair.specs.Attempts.{StayOnWayWith}
use Rattle.repair.proofs.renewing.take_over.Given as goal

abbrev pub invariant-reusable : goal.invariant-reusable
invariant-reusable l = record {
  kept : AreKept (protected_case l.task.system.now l.task.cells.now) (asked_of 0 l.task.cells.now) l.worlds;
  reusable : AreReusableTables (protected_case l.task.system.now l.task.cells.now) l.reusable.items;
  trials : (planned : List Bool) (repairs : List Refuted) → AnswerTrials l.task planned repairs l.flags l.fn.reusable.items
      → AnswerTrials l.task planned repairs l.flags l.reusable.items;
  answers : StayOnWayWith l.task l.flags l.fn.reusable.items l.fn.worlds l.worlds;
}

abbrev pub decreases-reusable : goal.decreases-reusable
decreases-reusable l = vec_len l.reusable
