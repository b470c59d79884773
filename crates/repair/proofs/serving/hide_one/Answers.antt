use Rattle.std.proofs.Common.{◌<◌, ◌++◌, ◌∷◌, [], ℕ, ◌∙◌, ap, refl, sym, subst, length, length-set, true, List, Bool, arith, rules}
use Rattle.sdc_base.specs.HiddenSets.{IsPermitted, hide}
use Rattle.sdc_base.specs.declared.side.Side.{Side}
use Rattle.worlds.specs.ProtectFaults.{asked_of}
use Rattle.worlds.specs.declared.world.World.{World}
use Rattle.repair.specs.OnTheWay.{IsOfFirst, AreAnswers}
use Rattle.repair.proofs.OnTheWay.{answers_wider, first_more}
use Rattle.worlds.specs.declared.refuted.Refuted.{Refuted}
use Rattle.repair.specs.HidingOrder.{Case, protected_case, coefficients_for}
use Rattle.repair.specs.KeptWorlds.{AreServedBefore, IsRepaired, shown_count}
use Rattle.repair.proofs.Flags.{free_may, permitted_more, within_hide, fewer_shown}
use Rattle.repair.proofs.Growing.{served_more}
use Rattle.repair.proofs.Order.{asked_inside}
use Rattle.repair.proofs.Repairing.{cheapest_inside, breaking_says, justified_by, one_repaired}
use Rattle.repair.proofs.serving.hide_one.Goals as goal

pub subject_of-subject-requires-clause-asked : goal.subject_of-subject-requires-clause-asked
subject_of-subject-requires-clause-asked c = omega (arith, c.args.task.now.fits.one_each, asked_inside c.args.task.now.cells.now c.args.place c.args.asked c.requires.stopped.stands)

pub returns-in-None-clause-ok : goal.returns-in-None-clause-ok
returns-in-None-clause-ok c =
    record { place = c.args.place; stopped = c.requires.stopped; none_breaks = c.in-None.ensures.none }

pub returns-in_ok-hide_for-in-Some-clause-ready : goal.returns-in_ok-hide_for-in-Some-clause-ready
returns-in_ok-hide_for-in-Some-clause-ready c =
    let cells = c.args.task.now.cells.now in
    let flags : List Bool = c.args.progress.now.hidden.flags in
    let subject = c.in-Some.subject in
    let own = breaking_says cells flags (coefficients_for c.args.task.now.system.now c.args.asked c.args.multipliers) subject c.in-Some.ensures.cheapest.breaking in
    let inside : subject < length flags = omega (arith, c.args.task.now.fits.one_each, c.requires.ready.each, cheapest_inside _ _ _ _ _ c.in-Some.ensures.cheapest) in
    record {
      long = c.subject_of-subject.ensures.length ∙ c.requires.ready.long;
      each = ap (λ (f : List Bool). length f) c.in_ok-hide_for-in-Some.ensures.ok_flags ∙ length-set flags subject true ∙ c.requires.ready.each;
      permitted = subst (IsPermitted cells) (sym c.in_ok-hide_for-in-Some.ensures.ok_flags)
          (permitted_more cells flags subject inside (free_may cells subject own.is_free) c.requires.ready.permitted);
    }

pub returns-in_ok-hide_for-in-Some-clause-repaired : goal.returns-in_ok-hide_for-in-Some-clause-repaired
returns-in_ok-hide_for-in-Some-clause-repaired c =
    λ planned before.
    let task : Case = protected_case c.args.task.now.system.now c.args.task.now.cells.now in
    let flags : List Bool = c.args.progress.now.hidden.flags in
    let repair : Refuted = record { subject = c.in-Some.subject; cell = c.args.asked.0; side = c.args.asked.1; multipliers = c.args.multipliers } in
    let both = justified_by task c.args.task.now.prices.now flags c.args.place c.args.asked c.args.multipliers c.in-Some.subject repair refl c.requires.stopped c.in-Some.ensures.cheapest in
    let repairs : List Refuted = c.args.progress.now.reasons in
    let worlds : List World = c.args.progress.now.tables in
    let asked : List (ℕ × Side) = asked_of 0 c.args.task.now.cells.now in
    record {
      is_repaired = subst (λ (f : List Bool). IsRepaired task c.args.task.now.prices.now planned f c.hide_for.new.self.reasons c.args.place) (sym c.in_ok-hide_for-in-Some.ensures.ok_flags)
          (subst (λ (r : List Refuted). IsRepaired task c.args.task.now.prices.now planned (hide flags c.in-Some.subject) r c.args.place) (sym c.in_ok-hide_for-in-Some.ensures.ok_reasons)
          (one_repaired task c.args.task.now.prices.now planned flags repairs c.args.place repair both.0 both.1 c.requires.stopped.stands before.is_repaired));
      answers = subst (λ (r : List Refuted). AreAnswers task (IsOfFirst planned r) asked c.hide_for.new.self.tables) (sym c.in_ok-hide_for-in-Some.ensures.ok_reasons)
          (subst (AreAnswers task (IsOfFirst planned (repairs ++ repair ∷ [])) asked) (sym c.in_ok-hide_for-in-Some.ensures.tables)
          (answers_wider task (IsOfFirst planned repairs) (IsOfFirst planned (repairs ++ repair ∷ [])) asked worlds (first_more planned repairs repair) before.answers));
    }

pub returns-in_ok-hide_for-in-Some-clause-ok : goal.returns-in_ok-hide_for-in-Some-clause-ok
returns-in_ok-hide_for-in-Some-clause-ok c =
    let task : Case = protected_case c.args.task.now.system.now c.args.task.now.cells.now in
    let flags : List Bool = c.args.progress.now.hidden.flags in
    let within : c.in-Some.subject < length flags = omega (arith, c.args.task.now.fits.one_each, c.requires.ready.each, cheapest_inside _ _ _ _ _ c.in-Some.ensures.cheapest) in
    let own = breaking_says c.args.task.now.cells.now flags (coefficients_for c.args.task.now.system.now c.args.asked c.args.multipliers) c.in-Some.subject c.in-Some.ensures.cheapest.breaking in (
      subst (λ (f : List Bool). AreServedBefore task f c.args.place c.hide_for.new.self.tables) (sym c.in_ok-hide_for-in-Some.ensures.ok_flags)
          (subst (λ ws. AreServedBefore task (hide flags c.in-Some.subject) c.args.place ws) (sym c.in_ok-hide_for-in-Some.ensures.tables)
          (served_more task flags (hide flags c.in-Some.subject) _ c.args.progress.now.tables (within_hide flags c.in-Some.subject within) c.requires.served)),
      subst (λ (f : List Bool). shown_count f < shown_count flags) (sym c.in_ok-hide_for-in-Some.ensures.ok_flags) (fewer_shown flags c.in-Some.subject within own.shown),
    )

pub returns-in_err-hide_for-in-Some-clause-ready : goal.returns-in_err-hide_for-in-Some-clause-ready
returns-in_err-hide_for-in-Some-clause-ready c = search rules

pub returns-in_err-hide_for-in-Some-clause-repaired : goal.returns-in_err-hide_for-in-Some-clause-repaired
returns-in_err-hide_for-in-Some-clause-repaired c = search rules
