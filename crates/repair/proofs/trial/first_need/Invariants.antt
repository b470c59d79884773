use Rattle.std.proofs.Common.{◌+◌}
use Rattle.repair.specs.HidingOrder.{protected_case, ProtectsBefore}
use Rattle.repair.specs.CellTrials.{AreReusableTables, AreLast}
use Rattle.repair.specs.Attempts.{StayTrialAnswers}
use Rattle.repair.proofs.trial.first_need.Given as goal

abbrev pub invariant-places : goal.invariant-places
invariant-places l = record {
  before : ProtectsBefore (protected_case l.attempt.task.now.system.now l.attempt.task.now.cells.now) l.attempt.hidden.now.flags l.place;
  answers : StayTrialAnswers (protected_case l.attempt.task.now.system.now l.attempt.task.now.cells.now) (l.attempt.cell + 1) l.attempt.hidden.now.flags l.fn.reusable.items l.reusable.items;
  reusable : AreReusableTables (protected_case l.attempt.task.now.system.now l.attempt.task.now.cells.now) l.reusable.items;
  last : AreLast (protected_case l.attempt.task.now.system.now l.attempt.task.now.cells.now) l.last.items;
}
