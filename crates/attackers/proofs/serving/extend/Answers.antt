use Rattle.std.proofs.Common.{◌≡◌, ◌∙◌, ◌<◌, ℕ, List, Bool, Option, IfNone, IfSome, true, false, length, length-set, ap, sym, subst, take, arith}
use Rattle.std.proofs.lemmas.Option.{slice_get_within}
use Rattle.sdc_base.specs.HiddenSets.{IsPermitted, hide}
use Rattle.certificate.specs.declared.certificate.WorldLine.{WorldLine}
use Rattle.repair.specs.HidingOrder.{breaks_at, coefficients_for, IsCheapest}
use Rattle.repair.specs.KeptWorlds.{shown_count}
use Rattle.repair.proofs.Flags.{free_may, permitted_more, within_hide, fewer_shown}
use Rattle.certificate.specs.declared.extra.ExtraNeed.{ExtraNeed}
use Rattle.attackers.specs.KnownCells.{with_known, target_of}
use Rattle.attackers.specs.ContributorTasks.{case_of, HoldGuards, IsExtended}
use Rattle.attackers.proofs.AskedCells.{attack_at}
use Rattle.attackers.proofs.Holding.{held_more}
use Rattle.attackers.proofs.Resisting.{cannot_by, one_extended, turn_by, SubjectSays, subject_says}
use Rattle.attackers.proofs.serving.extend.Goals as goal

pub subject_against-requires-clause-is_attack : goal.subject_against-requires-clause-is_attack
subject_against-requires-clause-is_attack c =
    let task = c.args.task.now in
    attack_at task.cells.now task.soles.now task.attacks.now c.args.place c.args.attack task.fits.are_attacks c.requires.refuted.stands

pub returns-in-None-clause-ok : goal.returns-in-None-clause-ok
returns-in-None-clause-ok c =
    let task = c.args.task.now in
    let flags : List Bool = c.args.progress.now.hidden.flags in
    let none : (n : ℕ) → breaks_at task.cells.now (with_known task.soles.now c.args.attack.row c.as_slice-flags.result.now) (coefficients_for task.system.now (target_of c.args.attack) c.args.multipliers) n ≡ false =
    subst (λ (o : Option ℕ). IfNone o ((n : ℕ) → breaks_at task.cells.now (with_known task.soles.now c.args.attack.row c.as_slice-flags.result.now) (coefficients_for task.system.now (target_of c.args.attack) c.args.multipliers) n ≡ false)) c.in-None.is c.in_ok-found.ensures.none in
    cannot_by (case_of task) task.soles.now task.attacks.now flags c.args.place c.args.attack c.args.multipliers task.fits.one_each c.requires.ready.each c.requires.ready.permitted
    (attack_at task.cells.now task.soles.now task.attacks.now c.args.place c.args.attack task.fits.are_attacks c.requires.refuted.stands) c.requires.refuted
    (subst (λ (f : List Bool). (n : ℕ) → breaks_at task.cells.now (with_known task.soles.now c.args.attack.row f) (coefficients_for task.system.now (target_of c.args.attack) c.args.multipliers) n ≡ false) c.as_slice-flags.ensures none)

pub returns-in_ok-hide_for-in-Some-clause-ready : goal.returns-in_ok-hide_for-in-Some-clause-ready
returns-in_ok-hide_for-in-Some-clause-ready c =
    let task = c.args.task.now in
    let flags : List Bool = c.args.progress.now.hidden.flags in
    let subject : ℕ = c.in-Some.subject in
    let long : length flags ≡ length task.cells.now = omega (arith, c.requires.ready.each, task.fits.one_each) in
    let cheapest : IsCheapest task.cells.now task.prices.now (with_known task.soles.now c.args.attack.row c.as_slice-flags.result.now) (coefficients_for task.system.now (target_of c.args.attack) c.args.multipliers) subject =
    subst (λ (o : Option ℕ). IfSome o (IsCheapest task.cells.now task.prices.now (with_known task.soles.now c.args.attack.row c.as_slice-flags.result.now) (coefficients_for task.system.now (target_of c.args.attack) c.args.multipliers))) c.in-Some.is c.in_ok-found.ensures.cheapest in
    let says : SubjectSays task.cells.now c.as_slice-flags.result.now subject = subject_says task.cells.now task.soles.now c.args.attack.row task.prices.now c.as_slice-flags.result.now (coefficients_for task.system.now (target_of c.args.attack) c.args.multipliers) subject (ap (λ (f : List Bool). length f) c.as_slice-flags.ensures ∙ long) cheapest in
    let inside : subject < length flags = omega (arith, long, slice_get_within task.cells.now subject says.is_free.cell says.is_free.found) in
    record {
      each = ap (λ (f : List Bool). length f) c.in_ok-hide_for-in-Some.ensures.ok_flags ∙ length-set flags subject true ∙ c.requires.ready.each;
      permitted = subst (IsPermitted task.cells.now) (sym c.in_ok-hide_for-in-Some.ensures.ok_flags) (permitted_more task.cells.now flags subject inside (free_may task.cells.now subject says.is_free) c.requires.ready.permitted);
    }

pub returns-in_ok-hide_for-in-Some-clause-extended : goal.returns-in_ok-hide_for-in-Some-clause-extended
returns-in_ok-hide_for-in-Some-clause-extended c =
    λ first before.
    let task = c.args.task.now in
    let flags : List Bool = c.args.progress.now.hidden.flags in
    let cheapest : IsCheapest task.cells.now task.prices.now (with_known task.soles.now c.args.attack.row c.as_slice-flags.result.now) (coefficients_for task.system.now (target_of c.args.attack) c.args.multipliers) c.in-Some.subject =
    subst (λ (o : Option ℕ). IfSome o (IsCheapest task.cells.now task.prices.now (with_known task.soles.now c.args.attack.row c.as_slice-flags.result.now) (coefficients_for task.system.now (target_of c.args.attack) c.args.multipliers))) c.in-Some.is c.in_ok-found.ensures.cheapest in
    let own = turn_by (case_of task) task.soles.now task.prices.now task.attacks.now flags c.args.place c.args.attack c.args.multipliers c.in-Some.subject c.requires.refuted
    (subst (λ (f : List Bool). IsCheapest task.cells.now task.prices.now (with_known task.soles.now c.args.attack.row f) (coefficients_for task.system.now (target_of c.args.attack) c.args.multipliers) c.in-Some.subject) c.as_slice-flags.ensures cheapest) in
    subst (λ (f : List Bool). IsExtended (case_of task) task.soles.now task.prices.now task.attacks.now first f c.hide_for.new.self.reasons c.args.place) (sym c.in_ok-hide_for-in-Some.ensures.ok_flags)
    (subst (λ (es : List ExtraNeed). IsExtended (case_of task) task.soles.now task.prices.now task.attacks.now first (hide flags c.in-Some.subject) es c.args.place) (sym c.in_ok-hide_for-in-Some.ensures.ok_reasons)
    (one_extended (case_of task) task.soles.now task.prices.now task.attacks.now first flags c.args.progress.now.reasons c.args.place _ own c.requires.refuted.stands before))

pub returns-in_ok-hide_for-in-Some-clause-ok : goal.returns-in_ok-hide_for-in-Some-clause-ok
returns-in_ok-hide_for-in-Some-clause-ok c =
    let task = c.args.task.now in
    let flags : List Bool = c.args.progress.now.hidden.flags in
    let subject : ℕ = c.in-Some.subject in
    let long : length flags ≡ length task.cells.now = omega (arith, c.requires.ready.each, task.fits.one_each) in
    let cheapest : IsCheapest task.cells.now task.prices.now (with_known task.soles.now c.args.attack.row c.as_slice-flags.result.now) (coefficients_for task.system.now (target_of c.args.attack) c.args.multipliers) subject =
    subst (λ (o : Option ℕ). IfSome o (IsCheapest task.cells.now task.prices.now (with_known task.soles.now c.args.attack.row c.as_slice-flags.result.now) (coefficients_for task.system.now (target_of c.args.attack) c.args.multipliers))) c.in-Some.is c.in_ok-found.ensures.cheapest in
    let same : length c.as_slice-flags.result.now ≡ length task.cells.now = ap (λ (f : List Bool). length f) c.as_slice-flags.ensures ∙ long in
    let there : SubjectSays task.cells.now c.as_slice-flags.result.now subject = subject_says task.cells.now task.soles.now c.args.attack.row task.prices.now c.as_slice-flags.result.now (coefficients_for task.system.now (target_of c.args.attack) c.args.multipliers) subject same cheapest in
    let says : SubjectSays task.cells.now flags subject = subst (λ (f : List Bool). SubjectSays task.cells.now f subject) c.as_slice-flags.ensures there in
    let inside : subject < length flags = omega (arith, long, slice_get_within task.cells.now subject says.is_free.cell says.is_free.found) in (
      subst (λ (f : List Bool). HoldGuards (case_of task) task.soles.now f (take c.args.place task.attacks.now) c.hide_for.new.self.tables) (sym c.in_ok-hide_for-in-Some.ensures.ok_flags)
          (subst (λ (g : List WorldLine). HoldGuards (case_of task) task.soles.now (hide flags subject) (take c.args.place task.attacks.now) g) (sym c.in_ok-hide_for-in-Some.ensures.tables)
          (held_more (case_of task) task.soles.now flags (hide flags subject) (take c.args.place task.attacks.now) c.args.progress.now.tables (within_hide flags subject inside) c.requires.held)),
      subst (λ (f : List Bool). shown_count f < shown_count flags) (sym c.in_ok-hide_for-in-Some.ensures.ok_flags) (fewer_shown flags subject inside says.shown),
    )
