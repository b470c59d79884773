use Rattle.repair.specs.KeptWorlds.{shown_count}
use Rattle.attackers.specs.ContributorTasks.{IsReadySet, AreHeldBefore, IsExtensionProgress}
use Rattle.attackers.proofs.serving.guard_at.Given as goal

abbrev pub invariant-extras : goal.invariant-extras
invariant-extras l = record {
  ready : IsReadySet l.task l.progress.hidden.flags;
  held : AreHeldBefore l.task l.place l.progress;
  extended : IsExtensionProgress l.task l.place l.fn.progress l.progress;
}

abbrev pub decreases-extras : goal.decreases-extras
decreases-extras l = shown_count l.progress.hidden.flags
