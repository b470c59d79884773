use Rattle.attackers.specs.ContributorTasks.{case_of}
use Rattle.attackers.proofs.Tries.{none_renewed}
use Rattle.attackers.proofs.trial.ask_anew.Goals as goal

pub places-init : goal.places-init
places-init c =
    none_renewed (case_of c.args.attempt.now.task.now) c.args.attempt.now.task.now.soles.now c.args.attempt.now.task.now.attacks.now c.args.attempt.now.hidden.now.flags c.args.attempt.now.cell c.args.attempt.now.guards.now c.empty-news.result c.empty-news.ensures c.requires.holds
