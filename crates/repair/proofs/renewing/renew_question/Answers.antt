use Rattle.std.proofs.Common.{◌≡◌, ◌<◌, ◌+◌, ◌∙◌, inr, refl, ℕ, ap, sym, subst, length, take, true, List, Bool, Some, slice_get, get_or, arith}
use Rattle.std.proofs.lemmas.Option.{slice_get_read}
use Rattle.std.proofs.lemmas.Result.{err_from_is_err_and}
use Rattle.sdc_base.specs.declared.side.Side.{Side}
use Rattle.sdc_base.specs.declared.side.Side.TheVariants.{Above}
use Rattle.worlds.specs.declared.world.World.{World}
use Rattle.worlds.specs.ProtectFaults.{asked_of}
use Rattle.repair.specs.LevelQuestions.{AreGiven, IsGiven, IsLevelAnswer}
use Rattle.repair.specs.OnTheWay.{IsOnWay, AreAnswers}
use Rattle.repair.proofs.OnTheWay.{given_by, answers_set}
use Rattle.repair.specs.HidingOrder.{Case, protected_case, StandsAt}
use Rattle.repair.specs.KeptWorlds.{AreServedBefore}
use Rattle.repair.specs.CellTrials.{fits, IsKept, AreKept}
use Rattle.repair.proofs.AtHand.{fitting_serves, kept_at, kept_set, served_next, served_set, protects_before, none_refuted}
use Rattle.repair.proofs.Answering.{askable_by}
use Rattle.repair.proofs.Repairing.{given_refutes, serving_by, stands_there}
use Rattle.repair.proofs.renewing.renew_question.Goals as goal

pub returns-then-fits-clause-served : goal.returns-then-fits-clause-served
returns-then-fits-clause-served c =
    let task : Case = protected_case c.args.task.now.system.now c.args.task.now.cells.now in
    let flags : List Bool = c.args.hidden.now.flags in
    let asked : ℕ × Side = get_or c.args.task.now.questions.now c.args.place (0, Above) in
    let stands : StandsAt c.args.task.now.cells.now asked c.args.place = stands_there c.args.task.now.cells.now c.args.task.now.questions.now c.args.place (0, Above) c.args.task.now.fits.in_order c.requires.place in
    let within : c.args.place < length c.args.worlds.now = omega (arith, c.requires.place, c.requires.count) in
    let read : slice_get c.as_slice-own.result.now c.args.place ≡ Some c.index-own-place.result = slice_get_read c.as_slice-own.result.now (length c.args.worlds.now) c.args.place c.index-own-place.result (ap (λ (l : List World). length l) (sym c.as_slice-own.ensures)) within c.index-own-place.is in
    let kept : slice_get c.args.worlds.now c.args.place ≡ Some c.index-own-place.result = subst (λ (l : List World). slice_get l c.args.place ≡ Some c.index-own-place.result) c.as_slice-own.ensures read in
    let fit : fits flags c.index-own-place.result ≡ true = subst (λ (f : List Bool). fits f c.index-own-place.result ≡ true) c.as_slice.ensures (sym c.fits.ensures ∙ c.if-fits.true) in
    let own : IsKept task asked c.index-own-place.result = kept_at task (asked_of 0 c.args.task.now.cells.now) c.args.worlds.now c.args.place asked c.index-own-place.result stands kept c.requires.set.kept in
    served_next task flags c.args.worlds.now c.args.place asked c.index-own-place.result stands kept (fitting_serves task flags asked c.index-own-place.result fit own) c.requires.served

pub invariant_of-question : goal.invariant_of-question
invariant_of-question c = record {
  is_askable = askable_by c.args.task.now c.args.hidden.now.flags c.args.place (get_or c.args.task.now.questions.now c.args.place (0, Above)) c.requires.set.each c.requires.set.permitted
      (stands_there c.args.task.now.cells.now c.args.task.now.questions.now c.args.place (0, Above) c.args.task.now.fits.in_order c.requires.place);
}

pub returns-in_err-answer-clause-err : goal.returns-in_err-answer-clause-err
returns-in_err-answer-clause-err c =
    let task : Case = protected_case c.args.task.now.system.now c.args.task.now.cells.now in
    let asked : ℕ × Side = get_or c.args.task.now.questions.now c.args.place (0, Above) in
    let flags : List Bool = c.args.hidden.now.flags in
    let stands : StandsAt c.args.task.now.cells.now asked c.args.place = stands_there c.args.task.now.cells.now c.args.task.now.questions.now c.args.place (0, Above) c.args.task.now.fits.in_order c.requires.place in
    let before = protects_before task flags (length c.args.task.now.questions.now) c.args.place (ap (λ (l : List (ℕ × Side)). length l) c.args.task.now.fits.in_order) c.requires.protecting in
    let p = err_from_is_err_and c.from_residual.result c.from_residual.ensures.1 in
    rw (p.1, p.2) (c.args.place, record { asked = asked; stands = stands; before = before; cause = c.in_err-answer.ensures.err })

pub set-requires : goal.set-requires
set-requires c = omega (arith, c.requires.place, c.requires.count)

pub returns-clause-kept : goal.returns-clause-kept
returns-clause-kept c =
    let task : Case = protected_case c.args.task.now.system.now c.args.task.now.cells.now in
    let asked : ℕ × Side = get_or c.args.task.now.questions.now c.args.place (0, Above) in
    let flags : List Bool = c.args.hidden.now.flags in
    let stands : StandsAt c.args.task.now.cells.now asked c.args.place = stands_there c.args.task.now.cells.now c.args.task.now.questions.now c.args.place (0, Above) c.args.task.now.fits.in_order c.requires.place in
    let given : IsGiven (λ set. set ≡ flags) task.system task.cells asked c.in-Reaches.world = subst (IsLevelAnswer c.args.task.now.system.now c.args.task.now.cells.now flags asked) c.in-Reaches.is c.in_ok-answer.ensures.ok in
    subst (AreKept task (asked_of 0 c.args.task.now.cells.now)) (sym c.set.ensures)
    (kept_set task (asked_of 0 c.args.task.now.cells.now) c.args.worlds.now c.args.place asked c.in-Reaches.world stands (flags, serving_by task flags c.args.place asked c.in-Reaches.world stands given) c.requires.set.kept)

pub returns-clause-served : goal.returns-clause-served
returns-clause-served c =
    let task : Case = protected_case c.args.task.now.system.now c.args.task.now.cells.now in
    let asked : ℕ × Side = get_or c.args.task.now.questions.now c.args.place (0, Above) in
    let flags : List Bool = c.args.hidden.now.flags in
    let stands : StandsAt c.args.task.now.cells.now asked c.args.place = stands_there c.args.task.now.cells.now c.args.task.now.questions.now c.args.place (0, Above) c.args.task.now.fits.in_order c.requires.place in
    let given : IsGiven (λ set. set ≡ flags) task.system task.cells asked c.in-Reaches.world = subst (IsLevelAnswer c.args.task.now.system.now c.args.task.now.cells.now flags asked) c.in-Reaches.is c.in_ok-answer.ensures.ok in
    let within : c.args.place < length c.args.worlds.now = omega (arith, c.requires.place, c.requires.count) in
    subst (λ (ws : List World). AreServedBefore task flags (c.args.place + 1) (take (c.args.place + 1) ws)) (sym c.set.ensures)
    (served_set task flags c.args.worlds.now c.args.place asked c.in-Reaches.world stands within (serving_by task flags c.args.place asked c.in-Reaches.world stands given) c.requires.served)

pub returns-clause-answers : goal.returns-clause-answers
returns-clause-answers c =
    λ planned repairs before.
    let task : Case = protected_case c.args.task.now.system.now c.args.task.now.cells.now in
    let asked : ℕ × Side = get_or c.args.task.now.questions.now c.args.place (0, Above) in
    let flags : List Bool = c.args.hidden.now.flags in
    let stands : StandsAt c.args.task.now.cells.now asked c.args.place = stands_there c.args.task.now.cells.now c.args.task.now.questions.now c.args.place (0, Above) c.args.task.now.fits.in_order c.requires.place in
    let given : IsGiven (λ set. set ≡ flags) task.system task.cells asked c.in-Reaches.world = subst (IsLevelAnswer c.args.task.now.system.now c.args.task.now.cells.now flags asked) c.in-Reaches.is c.in_ok-answer.ensures.ok in
    let own : IsGiven (IsOnWay task planned repairs flags) task.system task.cells asked c.in-Reaches.world =
    given_by task (IsOnWay task planned repairs flags) flags asked c.in-Reaches.world (inr (inr refl)) given in
    subst (AreAnswers task (IsOnWay task planned repairs flags) (asked_of 0 c.args.task.now.cells.now)) (sym c.set.ensures)
    (answers_set task (IsOnWay task planned repairs flags) (asked_of 0 c.args.task.now.cells.now) c.args.worlds.now c.args.place asked c.in-Reaches.world stands own before)

pub unreachable-requires : goal.unreachable-requires
unreachable-requires c =
    let task : Case = protected_case c.args.task.now.system.now c.args.task.now.cells.now in
    let asked : ℕ × Side = get_or c.args.task.now.questions.now c.args.place (0, Above) in
    let flags : List Bool = c.args.hidden.now.flags in
    let stands : StandsAt c.args.task.now.cells.now asked c.args.place = stands_there c.args.task.now.cells.now c.args.task.now.questions.now c.args.place (0, Above) c.args.task.now.fits.in_order c.requires.place in
    let given : AreGiven task.system task.cells flags asked c.in-Stops._multipliers = subst (IsLevelAnswer c.args.task.now.system.now c.args.task.now.cells.now flags asked) c.in-Stops.is c.in_ok-answer.ensures.ok in
    none_refuted task flags (length c.args.task.now.questions.now) c.args.place asked c.in-Stops._multipliers c.args.task.now.fits.one_each (ap (λ (l : List (ℕ × Side)). length l) c.args.task.now.fits.in_order) stands c.requires.protecting
    (given_refutes task.system task.cells flags asked c.in-Stops._multipliers given)
