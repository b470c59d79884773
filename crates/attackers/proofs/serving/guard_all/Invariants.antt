use Rattle.attackers.specs.ContributorTasks.{IsReadySet, AreHeldBefore, IsExtendedUpTo}
use Rattle.attackers.proofs.serving.guard_all.Given as goal

abbrev pub invariant-places : goal.invariant-places
invariant-places l = record {
  ready : IsReadySet l.task l.progress.hidden.flags;
  held : AreHeldBefore l.task l.place l.progress;
  extended : IsExtendedUpTo l.task l.place l.fn.progress.hidden.flags l.progress;
}
