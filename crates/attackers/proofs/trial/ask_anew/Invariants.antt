use Rattle.std.proofs.Common.{take}
use Rattle.attackers.specs.ContributorTasks.{case_of, HoldGuards}
use Rattle.attackers.specs.Dropping.{renewed_guards}
use Rattle.attackers.proofs.trial.ask_anew.Given as goal

abbrev pub invariant-places : goal.invariant-places
invariant-places l =
    HoldGuards (case_of l.attempt.task.now) l.attempt.task.now.soles.now l.attempt.hidden.now.flags (take l.place l.attempt.task.now.attacks.now) (renewed_guards l.attempt.cell l.attempt.guards.now l.news)
