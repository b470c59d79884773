use Rattle.std.proofs.Common.{◌≡◌, ◌∙◌, ◌++◌, ◌∷◌, [], ◌+◌, List, Bool, true, refl, sym, subst, take, filter, append_assoc, ap}
use Rattle.std.proofs.lemmas.Result.{err_from_is_err_and}
use Rattle.kept_questions.specs.declared.kept_answer.KeptAnswer.TheVariants.{Reaches, Stops}
use Rattle.certificate.specs.declared.certificate.WorldLine.{WorldLine}
use Rattle.repair.specs.LevelQuestions.{HasCause}
use Rattle.attackers.specs.KnownCells.{without_known, target_of, is_served, serves}
use Rattle.attackers.specs.ContributorTasks.{case_of, HoldGuards, IsAnswerAgainst}
use Rattle.attackers.specs.Dropping.{stays, renewed_guards}
use Rattle.attackers.proofs.AskedCells.{attack_says}
use Rattle.attackers.proofs.Holding.{any_left, any_right, held_before, held_next, held_by_new}
use Rattle.attackers.proofs.Resisting.{asked_by}
use Rattle.attackers.proofs.trial.renew_attack.Goals as goal

pub returns-then-is_still_served-clause-ok : goal.returns-then-is_still_served-clause-ok
returns-then-is_still_served-clause-ok c =
    let task = c.args.attempt.now.task.now in
    let attack = c.attack_at-attack.result in
    held_next (case_of task) task.soles.now c.args.attempt.now.hidden.now.flags task.attacks.now c.args.place attack (renewed_guards c.args.attempt.now.cell c.args.attempt.now.guards.now c.args.news.now) c.attack_at-attack.ensures.stands
    (any_left (λ (line : WorldLine). serves task.cells.now task.soles.now attack line.world) (filter (stays c.args.attempt.now.cell) c.args.attempt.now.guards.now) c.args.news.now (c.if-is_still_served.ensures refl)) c.requires.holds

pub returns-then-is_served-clause-ok : goal.returns-then-is_served-clause-ok
returns-then-is_served-clause-ok c =
    let task = c.args.attempt.now.task.now in
    let attack = c.attack_at-attack.result in
    let own : is_served task.cells.now task.soles.now attack c.args.news.now ≡ true = ap (λ (l : List WorldLine). is_served task.cells.now task.soles.now attack l) (sym c.as_slice.ensures) ∙ c.if-is_served.ensures refl in
    held_next (case_of task) task.soles.now c.args.attempt.now.hidden.now.flags task.attacks.now c.args.place attack (renewed_guards c.args.attempt.now.cell c.args.attempt.now.guards.now c.args.news.now) c.attack_at-attack.ensures.stands
    (any_right (λ (line : WorldLine). serves task.cells.now task.soles.now attack line.world) (filter (stays c.args.attempt.now.cell) c.args.attempt.now.guards.now) c.args.news.now own) c.requires.holds

pub returns-in_err-answer-clause-err : goal.returns-in_err-answer-clause-err
returns-in_err-answer-clause-err c =
    let task = c.args.attempt.now.task.now in
    let flags : List Bool = c.args.attempt.now.hidden.now.flags in
    let attack = c.attack_at-attack.result in
    let fault = c.in_err-answer.field-0.0.fault in
    let cause : HasCause task.system.now task.cells.now (without_known task.soles.now attack.row flags) (target_of attack) task.limit fault =
    subst (λ (f : List Bool). HasCause task.system.now task.cells.now (without_known task.soles.now attack.row f) (target_of attack) task.limit fault) c.as_slice-flags.ensures c.in_err-answer.ensures.err in
    let p = err_from_is_err_and c.from_residual.result c.from_residual.ensures.1 in
    rw (p.1, p.2) (asked_by (case_of task) task.soles.now task.attacks.now flags task.limit fault c.in_err-answer.field-0.0.row c.args.place attack c.attack_at-attack.ensures.stands c.in_err-answer.ensures.row
    (held_before (case_of task) task.soles.now flags task.attacks.now c.args.place (renewed_guards c.args.attempt.now.cell c.args.attempt.now.guards.now c.args.news.now) task.fits.are_attacks c.requires.holds) cause)

pub returns-in-Err-clause-err : goal.returns-in-Err-clause-err
returns-in-Err-clause-err c =
    let task = c.args.attempt.now.task.now in
    let flags : List Bool = c.args.attempt.now.hidden.now.flags in
    let attack = c.attack_at-attack.result in
    asked_by (case_of task) task.soles.now task.attacks.now flags task.limit _ attack.row c.args.place attack c.attack_at-attack.ensures.stands refl
    (held_before (case_of task) task.soles.now flags task.attacks.now c.args.place (renewed_guards c.args.attempt.now.cell c.args.attempt.now.guards.now c.args.news.now) task.fits.are_attacks c.requires.holds) tt

pub returns-in-Ok-clause-ok : goal.returns-in-Ok-clause-ok
returns-in-Ok-clause-ok c =
    let task = c.args.attempt.now.task.now in
    let flags : List Bool = c.args.attempt.now.hidden.now.flags in
    let attack = c.attack_at-attack.result in
    let here : IsAnswerAgainst (case_of task) task.soles.now c.as_slice-flags.result.now attack (Reaches c.in-Reaches.world) = subst (IsAnswerAgainst (case_of task) task.soles.now c.as_slice-flags.result.now attack) c.in-Reaches.is c.in_ok-answer.ensures.ok in
    let is : IsAnswerAgainst (case_of task) task.soles.now flags attack (Reaches c.in-Reaches.world) = subst (λ (f : List Bool). IsAnswerAgainst (case_of task) task.soles.now f attack (Reaches c.in-Reaches.world)) c.as_slice-flags.ensures here in
    let line : WorldLine = record { cell = attack.cell; side = attack.side; world = c.in-Reaches.world } in
    let pushed : c.push.new.self ≡ c.args.news.now ++ line ∷ [] = c.in-Ok.ensures.ok in
    let same : renewed_guards c.args.attempt.now.cell c.args.attempt.now.guards.now c.args.news.now ++ line ∷ [] ≡ renewed_guards c.args.attempt.now.cell c.args.attempt.now.guards.now c.push.new.self =
    append_assoc (filter (stays c.args.attempt.now.cell) c.args.attempt.now.guards.now) c.args.news.now (line ∷ []) ∙ ap (λ (l : List WorldLine). filter (stays c.args.attempt.now.cell) c.args.attempt.now.guards.now ++ l) (sym pushed) in
    subst (λ (g : List WorldLine). HoldGuards (case_of task) task.soles.now flags (take (c.args.place + 1) task.attacks.now) g) same
    (held_by_new (case_of task) task.soles.now flags task.attacks.now c.args.place attack (renewed_guards c.args.attempt.now.cell c.args.attempt.now.guards.now c.args.news.now) line c.attack_at-attack.ensures.stands is.0 (attack_says task.cells.now task.soles.now attack c.attack_at-attack.ensures.is_attack).primary is.1 is.2 c.requires.holds)

pub returns-in-Stops-clause-ok : goal.returns-in-Stops-clause-ok
returns-in-Stops-clause-ok c =
    let task = c.args.attempt.now.task.now in
    let flags : List Bool = c.args.attempt.now.hidden.now.flags in
    let attack = c.attack_at-attack.result in
    let here : IsAnswerAgainst (case_of task) task.soles.now c.as_slice-flags.result.now attack (Stops c.in-Stops.multipliers) = subst (IsAnswerAgainst (case_of task) task.soles.now c.as_slice-flags.result.now attack) c.in-Stops.is c.in_ok-answer.ensures.ok in
    let is : IsAnswerAgainst (case_of task) task.soles.now flags attack (Stops c.in-Stops.multipliers) = subst (λ (f : List Bool). IsAnswerAgainst (case_of task) task.soles.now f attack (Stops c.in-Stops.multipliers)) c.as_slice-flags.ensures here in (
      refl,
      record {
        place = c.args.place;
        stands = c.attack_at-attack.ensures.stands;
        before = held_before (case_of task) task.soles.now flags task.attacks.now c.args.place (renewed_guards c.args.attempt.now.cell c.args.attempt.now.guards.now c.args.news.now) task.fits.are_attacks c.requires.holds;
        refutes = is.0;
        gives = is.1;
      },
    )
