use Rattle.std.proofs.Common.{take}
use Rattle.repair.specs.HidingOrder.{protected_case}
use Rattle.repair.specs.KeptWorlds.{AreServedBefore}
use Rattle.repair.specs.Attempts.{IsTriedSet, StayOnWayWith}
use Rattle.repair.proofs.renewing.renew_all.Given as goal

abbrev pub invariant-places : goal.invariant-places
invariant-places l = record {
  set : IsTriedSet (protected_case l.task.system.now l.task.cells.now) l.hidden.flags l.worlds;
  answers : StayOnWayWith l.task l.hidden.flags l.fn.reusable.items l.fn.worlds l.worlds;
  served : AreServedBefore (protected_case l.task.system.now l.task.cells.now) l.hidden.flags l.place (take l.place l.worlds);
}
