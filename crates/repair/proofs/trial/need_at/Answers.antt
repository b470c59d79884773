use Rattle.std.proofs.Common.{◌≡◌, ◌<◌, ◌∙◌, ℕ, refl, sym, subst, length, true, List, Bool, Some, Option, slice_get, get_or, arith}
use Rattle.std.proofs.lemmas.Option.{slice_get_read}
use Rattle.sdc_base.specs.declared.side.Side.{Side}
use Rattle.sdc_base.specs.declared.side.Side.TheVariants.{Above}
use Rattle.worlds.specs.ProtectFaults.{asked_of}
use Rattle.worlds.specs.declared.world.World.{World}
use Rattle.repair.specs.LevelQuestions.{AreGiven, IsGiven, IsLevelAnswer}
use Rattle.repair.specs.HidingOrder.{Case, protected_case, StandsAt}
use Rattle.repair.specs.KeptWorlds.{IsServing}
use Rattle.repair.specs.CellTrials.{fits, last_fits, IsKept, AreLast}
use Rattle.repair.proofs.AtHand.{fitting_serves, kept_at, protects_next, refuted_by}
use Rattle.repair.proofs.Growing.{serving_protects}
use Rattle.repair.proofs.LastWorlds.{last_protects, last_set}
use Rattle.repair.proofs.Answering.{askable_by}
use Rattle.repair.proofs.Repairing.{serving_by, stands_there}
use Rattle.repair.proofs.trial.need_at.Goals as goal

pub returns-then-fits-clause-ok : goal.returns-then-fits-clause-ok
returns-then-fits-clause-ok c =
    let task : Case = protected_case c.args.attempt.now.task.now.system.now c.args.attempt.now.task.now.cells.now in
    let flags : List Bool = c.args.attempt.now.hidden.now.flags in
    let asked : ℕ × Side = get_or c.args.attempt.now.task.now.questions.now c.args.place (0, Above) in
    let stands : StandsAt c.args.attempt.now.task.now.cells.now asked c.args.place = stands_there c.args.attempt.now.task.now.cells.now c.args.attempt.now.task.now.questions.now c.args.place (0, Above) c.args.attempt.now.task.now.fits.in_order c.requires.place in
    let within : c.args.place < length c.args.attempt.now.worlds.now = omega (arith, c.requires.place, c.requires.count) in
    let kept : slice_get c.args.attempt.now.worlds.now c.args.place ≡ Some c.index-worlds-place.result = slice_get_read c.args.attempt.now.worlds.now (length c.args.attempt.now.worlds.now) c.args.place c.index-worlds-place.result refl within c.index-worlds-place.is in
    let own : IsKept task asked c.index-worlds-place.result = kept_at task (asked_of 0 c.args.attempt.now.task.now.cells.now) c.args.attempt.now.worlds.now c.args.place asked c.index-worlds-place.result stands kept c.requires.at_hand.kept in
    let fit : fits flags c.index-worlds-place.result ≡ true = subst (λ (f : List Bool). fits f c.index-worlds-place.result ≡ true) c.as_slice-flags.ensures (sym c.fits.ensures ∙ c.if-fits.true) in
    let serving : IsServing task flags asked c.index-worlds-place.result = fitting_serves task flags asked c.index-worlds-place.result fit own in
    protects_next task flags c.args.place asked stands (serving_protects task flags asked c.index-worlds-place.result serving) c.requires.before

pub returns-then-has_fitting-clause-ok : goal.returns-then-has_fitting-clause-ok
returns-then-has_fitting-clause-ok c =
    let task : Case = protected_case c.args.attempt.now.task.now.system.now c.args.attempt.now.task.now.cells.now in
    let flags : List Bool = c.args.attempt.now.hidden.now.flags in
    let asked : ℕ × Side = get_or c.args.attempt.now.task.now.questions.now c.args.place (0, Above) in
    let stands : StandsAt c.args.attempt.now.task.now.cells.now asked c.args.place = stands_there c.args.attempt.now.task.now.cells.now c.args.attempt.now.task.now.questions.now c.args.place (0, Above) c.args.attempt.now.task.now.fits.in_order c.requires.place in
    let worlds : List (Option World) = c.args.last.now.items in
    let fit : last_fits flags worlds c.args.place ≡ true =
    subst (λ (f : List Bool). last_fits f worlds c.args.place ≡ true) c.as_slice-flags.ensures
    (subst (λ (l : List (Option World)). last_fits c.as_slice-flags.result.now l c.args.place ≡ true) c.as_slice.ensures.value (sym c.has_fitting.ensures ∙ c.if-has_fitting.true)) in
    protects_next task flags c.args.place asked stands (last_protects task flags worlds c.args.place asked stands c.requires.at_hand.last fit) c.requires.before

pub walked_refusal-requires-clause-stands : goal.walked_refusal-requires-clause-stands
walked_refusal-requires-clause-stands c = stands_there c.args.attempt.now.task.now.cells.now c.args.attempt.now.task.now.questions.now c.args.place (0, Above) c.args.attempt.now.task.now.fits.in_order c.requires.place

pub invariant_of-question : goal.invariant_of-question
invariant_of-question c = record {
  is_askable = askable_by c.args.attempt.now.task.now c.args.attempt.now.hidden.now.flags c.args.place (get_or c.args.attempt.now.task.now.questions.now c.args.place (0, Above)) c.args.attempt.now.set.each c.args.attempt.now.set.permitted
      (stands_there c.args.attempt.now.task.now.cells.now c.args.attempt.now.task.now.questions.now c.args.place (0, Above) c.args.attempt.now.task.now.fits.in_order c.requires.place);
}

pub returns-in-Reaches-clause-last : goal.returns-in-Reaches-clause-last
returns-in-Reaches-clause-last c =
    let task : Case = protected_case c.args.attempt.now.task.now.system.now c.args.attempt.now.task.now.cells.now in
    let flags : List Bool = c.args.attempt.now.hidden.now.flags in
    let asked : ℕ × Side = get_or c.args.attempt.now.task.now.questions.now c.args.place (0, Above) in
    let stands : StandsAt c.args.attempt.now.task.now.cells.now asked c.args.place = stands_there c.args.attempt.now.task.now.cells.now c.args.attempt.now.task.now.questions.now c.args.place (0, Above) c.args.attempt.now.task.now.fits.in_order c.requires.place in
    let given : IsGiven (λ set. set ≡ flags) task.system task.cells asked c.in-Reaches.world = subst (IsLevelAnswer c.args.attempt.now.task.now.system.now c.args.attempt.now.task.now.cells.now flags asked) c.in-Reaches.is c.in-Some.ensures.answer in
    subst (AreLast task) (sym c.keep_last.ensures) (last_set task c.args.last.now.items c.args.place asked c.in-Reaches.world stands (flags, serving_by task flags c.args.place asked c.in-Reaches.world stands given) c.requires.at_hand.last)

pub returns-in-Reaches-clause-ok : goal.returns-in-Reaches-clause-ok
returns-in-Reaches-clause-ok c =
    let task : Case = protected_case c.args.attempt.now.task.now.system.now c.args.attempt.now.task.now.cells.now in
    let flags : List Bool = c.args.attempt.now.hidden.now.flags in
    let asked : ℕ × Side = get_or c.args.attempt.now.task.now.questions.now c.args.place (0, Above) in
    let stands : StandsAt c.args.attempt.now.task.now.cells.now asked c.args.place = stands_there c.args.attempt.now.task.now.cells.now c.args.attempt.now.task.now.questions.now c.args.place (0, Above) c.args.attempt.now.task.now.fits.in_order c.requires.place in
    let given : IsGiven (λ set. set ≡ flags) task.system task.cells asked c.in-Reaches.world = subst (IsLevelAnswer c.args.attempt.now.task.now.system.now c.args.attempt.now.task.now.cells.now flags asked) c.in-Reaches.is c.in-Some.ensures.answer in
    protects_next task flags c.args.place asked stands (serving_protects task flags asked c.in-Reaches.world (serving_by task flags c.args.place asked c.in-Reaches.world stands given)) c.requires.before

pub returns-in-Stops-clause-ok : goal.returns-in-Stops-clause-ok
returns-in-Stops-clause-ok c =
    let task : Case = protected_case c.args.attempt.now.task.now.system.now c.args.attempt.now.task.now.cells.now in
    let flags : List Bool = c.args.attempt.now.hidden.now.flags in
    let asked : ℕ × Side = get_or c.args.attempt.now.task.now.questions.now c.args.place (0, Above) in
    let stands : StandsAt c.args.attempt.now.task.now.cells.now asked c.args.place = stands_there c.args.attempt.now.task.now.cells.now c.args.attempt.now.task.now.questions.now c.args.place (0, Above) c.args.attempt.now.task.now.fits.in_order c.requires.place in
    let given : AreGiven task.system task.cells flags asked c.in-Stops.multipliers = subst (IsLevelAnswer c.args.attempt.now.task.now.system.now c.args.attempt.now.task.now.cells.now flags asked) c.in-Stops.is c.in-Some.ensures.answer in
    (refl, refuted_by task flags c.args.place asked (record { subject = c.args.attempt.now.cell; cell = asked.0; side = asked.1; multipliers = c.in-Stops.multipliers }) refl c.args.attempt.now.task.now.fits.one_each stands c.requires.before given)
