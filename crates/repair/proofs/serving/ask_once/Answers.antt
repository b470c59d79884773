use Rattle.std.proofs.Common.{◌≡◌, ◌+◌, ◌++◌, ◌∷◌, [], ℕ, sym, subst, List, Bool, Some, length, slice_get, get_or}
use Rattle.std.proofs.lemmas.Result.{err_from_is_err_and}
use Rattle.sdc_base.specs.declared.side.Side.{Side}
use Rattle.sdc_base.specs.declared.side.Side.TheVariants.{Above}
use Rattle.worlds.specs.declared.world.World.{World}
use Rattle.repair.specs.LevelQuestions.{AreGiven, IsGiven, IsLevelAnswer}
use Rattle.repair.specs.OnTheWay.{IsOfFirst, AreAnswers}
use Rattle.worlds.specs.ProtectFaults.{asked_of}
use Rattle.worlds.specs.declared.refuted.Refuted.{Refuted}
use Rattle.repair.proofs.Growing.{served_so_far}
use Rattle.repair.proofs.OnTheWay.{given_by, first_whole, answers_push}
use Rattle.repair.specs.HidingOrder.{Case, protected_case, StandsAt}
use Rattle.repair.specs.KeptWorlds.{AreServedBefore, IsRepaired}
use Rattle.repair.specs.Stops.{IsQuestion}
use Rattle.repair.proofs.Answering.{askable_by}
use Rattle.repair.proofs.Repairing.{question_of, one_served, serving_by, stopped_by, stands_there}
use Rattle.repair.proofs.serving.ask_once.Goals as goal

pub invariant_of-question : goal.invariant_of-question
invariant_of-question c = record {
  is_askable = askable_by c.args.task.now c.args.progress.now.hidden.flags c.args.place (get_or c.args.task.now.questions.now c.args.place (0, Above)) c.requires.ready.each c.requires.ready.permitted
      (stands_there c.args.task.now.cells.now c.args.task.now.questions.now c.args.place (0, Above) c.args.task.now.fits.in_order c.requires.place);
}

pub returns-in_err-answer-clause-err : goal.returns-in_err-answer-clause-err
returns-in_err-answer-clause-err c =
    let task : Case = protected_case c.args.task.now.system.now c.args.task.now.cells.now in
    let asked : ℕ × Side = get_or c.args.task.now.questions.now c.args.place (0, Above) in
    let stands : StandsAt c.args.task.now.cells.now asked c.args.place = stands_there c.args.task.now.cells.now c.args.task.now.questions.now c.args.place (0, Above) c.args.task.now.fits.in_order c.requires.place in
    let flags : List Bool = c.args.progress.now.hidden.flags in
    let p = err_from_is_err_and c.from_residual.result c.from_residual.ensures.1 in
    rw (p.1, p.2) (question_of task flags c.args.place asked c.args.progress.now.tables c.args.task.now.limit c.in_err-answer.field-0.0 stands c.requires.served c.in_err-answer.ensures.err)

pub returns-in-Ok-clause-ok : goal.returns-in-Ok-clause-ok
returns-in-Ok-clause-ok c =
    let task : Case = protected_case c.args.task.now.system.now c.args.task.now.cells.now in
    let asked : ℕ × Side = get_or c.args.task.now.questions.now c.args.place (0, Above) in
    let stands : StandsAt c.args.task.now.cells.now asked c.args.place = stands_there c.args.task.now.cells.now c.args.task.now.questions.now c.args.place (0, Above) c.args.task.now.fits.in_order c.requires.place in
    let flags : List Bool = c.args.progress.now.hidden.flags in
    let given : IsGiven (λ set. set ≡ flags) task.system task.cells asked c.in-Reaches.world = subst (IsLevelAnswer c.args.task.now.system.now c.args.task.now.cells.now flags asked) c.in-Reaches.is c.in_ok-answer.ensures.ok in
    subst (λ (f : List Bool). AreServedBefore task f (c.args.place + 1) c.keep.new.self.tables) (sym c.in-Ok.ensures.flags)
    (subst (λ (ws : List World). AreServedBefore task flags (c.args.place + 1) ws) (sym c.in-Ok.ensures.ok)
    (one_served task flags c.args.place asked c.args.progress.now.tables c.in-Reaches.world stands (serving_by task flags c.args.place asked c.in-Reaches.world stands given) c.requires.served))

pub returns-in-Ok-clause-repaired : goal.returns-in-Ok-clause-repaired
returns-in-Ok-clause-repaired c =
    λ planned before.
    let task : Case = protected_case c.args.task.now.system.now c.args.task.now.cells.now in
    let asked : ℕ × Side = get_or c.args.task.now.questions.now c.args.place (0, Above) in
    let stands : StandsAt c.args.task.now.cells.now asked c.args.place = stands_there c.args.task.now.cells.now c.args.task.now.questions.now c.args.place (0, Above) c.args.task.now.fits.in_order c.requires.place in
    let flags : List Bool = c.args.progress.now.hidden.flags in
    let repairs : List Refuted = c.args.progress.now.reasons in
    let given : IsGiven (λ set. set ≡ flags) task.system task.cells asked c.in-Reaches.world = subst (IsLevelAnswer c.args.task.now.system.now c.args.task.now.cells.now flags asked) c.in-Reaches.is c.in_ok-answer.ensures.ok in
    let own : IsGiven (IsOfFirst planned repairs) task.system task.cells asked c.in-Reaches.world =
    given_by task (IsOfFirst planned repairs) flags asked c.in-Reaches.world (first_whole planned flags repairs before.is_repaired.hidden_is) given in
    let behind : slice_get (asked_of 0 c.args.task.now.cells.now) (length c.args.progress.now.tables) ≡ Some asked =
    subst (λ k. slice_get (asked_of 0 c.args.task.now.cells.now) k ≡ Some asked) (sym (served_so_far task flags c.args.place asked c.args.progress.now.tables stands c.requires.served)) stands in
    let answers : AreAnswers task (IsOfFirst planned repairs) (asked_of 0 c.args.task.now.cells.now) (c.args.progress.now.tables ++ c.in-Reaches.world ∷ []) =
    answers_push task (IsOfFirst planned repairs) (asked_of 0 c.args.task.now.cells.now) c.args.progress.now.tables asked c.in-Reaches.world behind own before.answers in
    record {
      is_repaired = subst (λ (f : List Bool). IsRepaired task c.args.task.now.prices.now planned f c.keep.new.self.reasons c.args.place) (sym c.in-Ok.ensures.flags)
          (subst (λ (r : List Refuted). IsRepaired task c.args.task.now.prices.now planned flags r c.args.place) (sym c.in-Ok.ensures.reasons) before.is_repaired);
      answers = subst (λ (r : List Refuted). AreAnswers task (IsOfFirst planned r) (asked_of 0 c.args.task.now.cells.now) c.keep.new.self.tables) (sym c.in-Ok.ensures.reasons)
          (subst (AreAnswers task (IsOfFirst planned repairs) (asked_of 0 c.args.task.now.cells.now)) (sym c.in-Ok.ensures.ok) answers);
    }

pub returns-in-Err-clause-err : goal.returns-in-Err-clause-err
returns-in-Err-clause-err c =
    let task : Case = protected_case c.args.task.now.system.now c.args.task.now.cells.now in
    let asked : ℕ × Side = get_or c.args.task.now.questions.now c.args.place (0, Above) in
    let stands : StandsAt c.args.task.now.cells.now asked c.args.place = stands_there c.args.task.now.cells.now c.args.task.now.questions.now c.args.place (0, Above) c.args.task.now.fits.in_order c.requires.place in
    let flags : List Bool = c.args.progress.now.hidden.flags in
    subst (λ (f : List Bool). IsQuestion task f c.args.task.now.limit _ c.args.place) (sym c.in-Err.ensures.flags)
    (question_of task flags c.args.place asked c.args.progress.now.tables c.args.task.now.limit _ stands c.requires.served tt)

pub hide_one-requires-clause-stopped : goal.hide_one-requires-clause-stopped
hide_one-requires-clause-stopped c =
    let task : Case = protected_case c.args.task.now.system.now c.args.task.now.cells.now in
    let asked : ℕ × Side = get_or c.args.task.now.questions.now c.args.place (0, Above) in
    let stands : StandsAt c.args.task.now.cells.now asked c.args.place = stands_there c.args.task.now.cells.now c.args.task.now.questions.now c.args.place (0, Above) c.args.task.now.fits.in_order c.requires.place in
    let flags : List Bool = c.args.progress.now.hidden.flags in
    let given : AreGiven task.system task.cells flags asked c.in-Stops.multipliers = subst (IsLevelAnswer c.args.task.now.system.now c.args.task.now.cells.now flags asked) c.in-Stops.is c.in_ok-answer.ensures.ok in
    stopped_by task flags c.args.place asked c.args.progress.now.tables c.in-Stops.multipliers stands c.requires.served given

pub returns-in-Err-hide_one-clause-err : goal.returns-in-Err-hide_one-clause-err
returns-in-Err-hide_one-clause-err c =
    let task : Case = protected_case c.args.task.now.system.now c.args.task.now.cells.now in
    let asked : ℕ × Side = get_or c.args.task.now.questions.now c.args.place (0, Above) in
    let stands : StandsAt c.args.task.now.cells.now asked c.args.place = stands_there c.args.task.now.cells.now c.args.task.now.questions.now c.args.place (0, Above) c.args.task.now.fits.in_order c.requires.place in
    let flags : List Bool = c.args.progress.now.hidden.flags in
    subst (λ (f : List Bool). IsQuestion task f c.args.task.now.limit _ c.args.place) (sym c.in-Err-hide_one.ensures.err)
    (question_of task flags c.args.place asked c.args.progress.now.tables c.args.task.now.limit _ stands c.requires.served tt)
