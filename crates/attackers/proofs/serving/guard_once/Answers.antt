use Rattle.std.proofs.Common.{List, Bool, refl, sym, subst}
use Rattle.std.proofs.lemmas.Result.{err_from_is_err_and}
use Rattle.repair.specs.LevelQuestions.{HasCause}
use Rattle.attackers.specs.KnownCells.{without_known, target_of}
use Rattle.attackers.specs.ContributorTasks.{case_of, IsAskedOf}
use Rattle.attackers.proofs.Holding.{held_before}
use Rattle.attackers.proofs.Resisting.{asked_by}
use Rattle.attackers.proofs.serving.guard_once.Goals as goal

pub returns-in_err-answer-clause-err : goal.returns-in_err-answer-clause-err
returns-in_err-answer-clause-err c =
    let task = c.args.task.now in
    let flags : List Bool = c.args.progress.now.hidden.flags in
    let attack = c.attack_at-attack.result in
    let fault = c.in_err-answer.field-0.0.fault in
    let cause : HasCause task.system.now task.cells.now (without_known task.soles.now attack.row flags) (target_of attack) task.limit fault =
    subst (λ (f : List Bool). HasCause task.system.now task.cells.now (without_known task.soles.now attack.row f) (target_of attack) task.limit fault) c.as_slice-2.ensures c.in_err-answer.ensures.err in
    let p = err_from_is_err_and c.from_residual.result c.from_residual.ensures.1 in
    rw (p.1, p.2) (asked_by (case_of task) task.soles.now task.attacks.now flags task.limit fault c.in_err-answer.field-0.0.row c.args.place attack c.attack_at-attack.ensures.stands c.in_err-answer.ensures.row
    (held_before (case_of task) task.soles.now flags task.attacks.now c.args.place c.args.progress.now.tables task.fits.are_attacks c.requires.held) cause)

pub returns-in-Err-clause-err : goal.returns-in-Err-clause-err
returns-in-Err-clause-err c =
    let task = c.args.task.now in
    let flags : List Bool = c.args.progress.now.hidden.flags in
    let attack = c.attack_at-attack.result in
    subst (λ (f : List Bool). IsAskedOf task f _ attack.row c.args.place) (sym c.in-Err.ensures.err)
    (asked_by (case_of task) task.soles.now task.attacks.now flags task.limit _ attack.row c.args.place attack c.attack_at-attack.ensures.stands refl
    (held_before (case_of task) task.soles.now flags task.attacks.now c.args.place c.args.progress.now.tables task.fits.are_attacks c.requires.held) tt)
