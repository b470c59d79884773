use Rattle.std.proofs.Common.{◌≡◌, ◌+◌, ◌∙◌, ◌||◌, ℕ, refl, sym, subst, length, nat_lt, true, List, Bool}
use Rattle.std.proofs.lemmas.Result.{err_from_is_err_and}
use Rattle.sdc_base.specs.declared.side.Side.{Side}
use Rattle.sdc_base.specs.declared.cell.Kind.TheVariants.{Primary}
use Rattle.worlds.specs.ProtectFaults.{asked_of}
use Rattle.std.specs.List.{list_any}
use Rattle.repair.specs.LevelQuestions.{AreGiven, IsGiven, IsLevelAnswer}
use Rattle.repair.specs.HidingOrder.{Case, protected_case, IsOfKind, StandsAt}
use Rattle.repair.specs.CellTrials.{serves_beside, AreReusableTables, AreTrialAnswers}
use Rattle.repair.specs.OnTheWay.{IsOfTrial}
use Rattle.repair.proofs.OnTheWay.{given_by, trials_more}
use Rattle.repair.proofs.AtHand.{protects_at_hand, protects_next, refuted_by, spare_kept}
use Rattle.repair.proofs.Growing.{serving_protects}
use Rattle.repair.proofs.Answering.{askable_by}
use Rattle.repair.proofs.Order.{asked_primary}
use Rattle.repair.proofs.Repairing.{serving_by}
use Rattle.repair.proofs.trial.walked_refusal.Goals as goal

pub is_at_hand-requires : goal.is_at_hand-requires
is_at_hand-requires c = record {
  primary =
      asked_primary c.args.attempt.now.task.now.cells.now c.args.place c.args.asked c.requires.stands;
}

pub returns-then-is_at_hand-clause-ok : goal.returns-then-is_at_hand-clause-ok
returns-then-is_at_hand-clause-ok c =
    let task : Case = protected_case c.args.attempt.now.task.now.system.now c.args.attempt.now.task.now.cells.now in
    let flags : List Bool = c.args.attempt.now.hidden.now.flags in
    let asked : ℕ × Side = c.args.asked in
    let stands : StandsAt c.args.attempt.now.task.now.cells.now asked c.args.place = c.requires.stands in
    let is : IsOfKind c.args.attempt.now.task.now.cells.now asked.0 Primary = asked_primary c.args.attempt.now.task.now.cells.now c.args.place asked stands in
    let reusable : AreReusableTables task c.as_slice.result.now = subst (AreReusableTables task) (sym c.as_slice.ensures.value) c.requires.reusable in
    let test = subst (λ (f : List Bool). (list_any (serves_beside is.cell asked f) c.args.attempt.now.worlds.now || list_any (λ spare. serves_beside is.cell asked f spare.world) c.as_slice.result.now) ≡ true) c.as_slice-flags.ensures (sym (c.is_at_hand.ensures is.cell is.found) ∙ c.if-is_at_hand.true) in
    protects_next task flags c.args.place asked stands
    (protects_at_hand task flags asked is.cell (asked_of 0 c.args.attempt.now.task.now.cells.now) c.args.attempt.now.worlds.now c.as_slice.result.now is.found c.requires.kept reusable test) c.requires.before

pub invariant_of-question : goal.invariant_of-question
invariant_of-question c = record {
  is_askable = askable_by c.args.attempt.now.task.now c.args.attempt.now.hidden.now.flags c.args.place c.args.asked c.args.attempt.now.set.each c.args.attempt.now.set.permitted c.requires.stands;
}

pub returns-in_err-answer-clause-err : goal.returns-in_err-answer-clause-err
returns-in_err-answer-clause-err c =
    let task : Case = protected_case c.args.attempt.now.task.now.system.now c.args.attempt.now.task.now.cells.now in
    let flags : List Bool = c.args.attempt.now.hidden.now.flags in
    let asked : ℕ × Side = c.args.asked in
    let stands : StandsAt c.args.attempt.now.task.now.cells.now asked c.args.place = c.requires.stands in
    let p = err_from_is_err_and c.from_residual.result c.from_residual.ensures.1 in
    rw (p.1, p.2) (record { asked = asked; stands = stands; before = c.requires.before; cause = c.in_err-answer.ensures.err })

pub returns-in_default-clause-err : goal.returns-in_default-clause-err
returns-in_default-clause-err c =
    record {
      asked = c.args.asked;
      stands = c.requires.stands;
      before = c.requires.before;
      cause = tt;
    }

pub returns-in-Ok-clause-reusable : goal.returns-in-Ok-clause-reusable
returns-in-Ok-clause-reusable c =
    let task : Case = protected_case c.args.attempt.now.task.now.system.now c.args.attempt.now.task.now.cells.now in
    let flags : List Bool = c.args.attempt.now.hidden.now.flags in
    let asked : ℕ × Side = c.args.asked in
    let stands : StandsAt c.args.attempt.now.task.now.cells.now asked c.args.place = c.requires.stands in
    let given : IsGiven (λ set. set ≡ flags) task.system task.cells asked c.in-Reaches.world = subst (IsLevelAnswer c.args.attempt.now.task.now.system.now c.args.attempt.now.task.now.cells.now flags asked) c.in-Reaches.is c.in_ok-answer.ensures.ok in
    subst (AreReusableTables task) (sym c.in-Ok.ensures.ok)
    (spare_kept task c.args.reusable.now.items (record { place = c.args.place; world = c.in-Reaches.world }) (nat_lt (length c.args.reusable.now.items) (length c.args.attempt.now.task.now.questions.now)) (record { asked = asked; stands = stands; kept = (flags, serving_by task flags c.args.place asked c.in-Reaches.world stands given) }) c.requires.reusable)

pub returns-in-Ok-clause-answers : goal.returns-in-Ok-clause-answers
returns-in-Ok-clause-answers c =
    λ larger now before.
    let task : Case = protected_case c.args.attempt.now.task.now.system.now c.args.attempt.now.task.now.cells.now in
    let flags : List Bool = c.args.attempt.now.hidden.now.flags in
    let asked : ℕ × Side = c.args.asked in
    let stands : StandsAt c.args.attempt.now.task.now.cells.now asked c.args.place = c.requires.stands in
    let given : IsGiven (λ set. set ≡ flags) task.system task.cells asked c.in-Reaches.world = subst (IsLevelAnswer c.args.attempt.now.task.now.system.now c.args.attempt.now.task.now.cells.now flags asked) c.in-Reaches.is c.in_ok-answer.ensures.ok in
    let own : IsGiven (IsOfTrial task larger (c.args.attempt.now.cell + 1) flags) task.system task.cells asked c.in-Reaches.world =
    given_by task (IsOfTrial task larger (c.args.attempt.now.cell + 1) flags) flags asked c.in-Reaches.world now given in
    subst (AreTrialAnswers task larger (c.args.attempt.now.cell + 1) flags) (sym c.in-Ok.ensures.ok)
    (trials_more task larger (c.args.attempt.now.cell + 1) flags c.args.reusable.now.items (record { place = c.args.place; world = c.in-Reaches.world }) (nat_lt (length c.args.reusable.now.items) (length c.args.attempt.now.task.now.questions.now)) (record { asked = asked; stands = stands; given = own }) before)

pub returns-in-Ok-clause-ok : goal.returns-in-Ok-clause-ok
returns-in-Ok-clause-ok c =
    let task : Case = protected_case c.args.attempt.now.task.now.system.now c.args.attempt.now.task.now.cells.now in
    let flags : List Bool = c.args.attempt.now.hidden.now.flags in
    let asked : ℕ × Side = c.args.asked in
    let stands : StandsAt c.args.attempt.now.task.now.cells.now asked c.args.place = c.requires.stands in
    let given : IsGiven (λ set. set ≡ flags) task.system task.cells asked c.in-Reaches.world = subst (IsLevelAnswer c.args.attempt.now.task.now.system.now c.args.attempt.now.task.now.cells.now flags asked) c.in-Reaches.is c.in_ok-answer.ensures.ok in
    protects_next task flags c.args.place asked stands (serving_protects task flags asked c.in-Reaches.world (serving_by task flags c.args.place asked c.in-Reaches.world stands given)) c.requires.before

pub returns-in-Stops-clause-ok : goal.returns-in-Stops-clause-ok
returns-in-Stops-clause-ok c =
    let task : Case = protected_case c.args.attempt.now.task.now.system.now c.args.attempt.now.task.now.cells.now in
    let flags : List Bool = c.args.attempt.now.hidden.now.flags in
    let asked : ℕ × Side = c.args.asked in
    let stands : StandsAt c.args.attempt.now.task.now.cells.now asked c.args.place = c.requires.stands in
    let given : AreGiven task.system task.cells flags asked c.in-Stops.multipliers = subst (IsLevelAnswer c.args.attempt.now.task.now.system.now c.args.attempt.now.task.now.cells.now flags asked) c.in-Stops.is c.in_ok-answer.ensures.ok in
    (refl, refuted_by task flags c.args.place asked (record { subject = c.args.attempt.now.cell; cell = asked.0; side = asked.1; multipliers = c.in-Stops.multipliers }) refl c.args.attempt.now.task.now.fits.one_each stands c.requires.before given)
