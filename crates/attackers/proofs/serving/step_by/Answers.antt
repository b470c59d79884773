use Rattle.std.proofs.Common.{◌+◌, List, Bool, sym, subst, take}
use Rattle.kept_questions.specs.declared.kept_answer.KeptAnswer.TheVariants.{Reaches, Stops}
use Rattle.certificate.specs.declared.certificate.WorldLine.{WorldLine}
use Rattle.attackers.specs.KnownCells.{IsAttack}
use Rattle.attackers.specs.ContributorTasks.{case_of, IsAnswerAgainst, HoldGuards}
use Rattle.attackers.proofs.AskedCells.{attack_says, attack_at}
use Rattle.attackers.proofs.Holding.{held_by_new, held_before}
use Rattle.attackers.proofs.serving.step_by.Goals as goal

pub returns-in_ok-keep-in-Reaches-clause-ok : goal.returns-in_ok-keep-in-Reaches-clause-ok
returns-in_ok-keep-in-Reaches-clause-ok c =
    let task = c.args.task.now in
    let flags : List Bool = c.args.progress.now.hidden.flags in
    let on : IsAttack task.cells.now task.soles.now c.args.attack = attack_at task.cells.now task.soles.now task.attacks.now c.args.place c.args.attack task.fits.are_attacks c.requires.stands in
    let is : IsAnswerAgainst (case_of task) task.soles.now flags c.args.attack (Reaches c.in-Reaches.world) = subst (IsAnswerAgainst (case_of task) task.soles.now flags c.args.attack) c.in-Reaches.is c.requires.answered in
    subst (λ (f : List Bool). HoldGuards (case_of task) task.soles.now f (take (c.args.place + 1) task.attacks.now) c.keep.new.self.tables) (sym c.in_ok-keep-in-Reaches.ensures.flags)
    (subst (λ (g : List WorldLine). HoldGuards (case_of task) task.soles.now flags (take (c.args.place + 1) task.attacks.now) g) (sym c.in_ok-keep-in-Reaches.ensures.ok)
    (held_by_new (case_of task) task.soles.now flags task.attacks.now c.args.place c.args.attack c.args.progress.now.tables _ c.requires.stands is.0 (attack_says task.cells.now task.soles.now c.args.attack on).primary is.1 is.2 c.requires.held))

pub extend-requires-clause-refuted : goal.extend-requires-clause-refuted
extend-requires-clause-refuted c =
    let task = c.args.task.now in
    let flags : List Bool = c.args.progress.now.hidden.flags in
    let is : IsAnswerAgainst (case_of task) task.soles.now flags c.args.attack (Stops c.in-Stops.multipliers) = subst (IsAnswerAgainst (case_of task) task.soles.now flags c.args.attack) c.in-Stops.is c.requires.answered in
    record {
      stands = c.requires.stands;
      before = held_before (case_of task) task.soles.now flags task.attacks.now c.args.place c.args.progress.now.tables task.fits.are_attacks c.requires.held;
      refutes = is.0;
      gives = is.1;
    }
