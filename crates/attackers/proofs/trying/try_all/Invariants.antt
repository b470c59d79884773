use Rattle.std.proofs.Common.{◌≡◌}
use Rattle.attackers.specs.ContributorTasks.{IsReadySet}
use Rattle.attackers.specs.Dropping.{HasTried}
use Rattle.attackers.proofs.trying.try_all.Given as goal

abbrev pub invariant-cells : goal.invariant-cells
invariant-cells l = record {
  set : IsReadySet l.task l.progress.hidden.flags;
  extras : l.progress.reasons ≡ l.fn.progress.reasons;
  tried : HasTried l.task l.first.flags l.fn.progress.hidden.flags l.number l.progress l.found;
}
