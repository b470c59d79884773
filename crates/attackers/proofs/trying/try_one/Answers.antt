use Rattle.std.proofs.Common.{◌≡◌, ◌<◌, ◌+◌, ◌++◌, ◌∷◌, [], ◌∙◌, not, true, ℕ, List, Bool, length, ap, sym, subst, arith}
use Rattle.std.proofs.lemmas.Result.{err_from_is_err_and}
use Rattle.sdc_base.specs.HiddenSets.{is_hidden, hide, show}
use Rattle.worlds.proofs.TrueTests.{on_ok, and_true, ok_more}
use Rattle.certificate.specs.declared.certificate.WorldLine.{WorldLine}
use Rattle.repair.proofs.Tries.{hidden_again}
use Rattle.certificate.specs.declared.extra.ExtraNeed.{ExtraNeed}
use Rattle.attackers.specs.declared.trial.Trial.TheVariants as trial
use Rattle.attackers.specs.KnownCells.{GuardsAll}
use Rattle.attackers.specs.ContributorTasks.{case_of, HoldGuards, IsReadySet}
use Rattle.attackers.specs.Dropping.{renewed_guards, may_drop, IsTrial, IsTried, IsTryStop, IsNeedFor, HasFault}
use Rattle.repair.specs.HidingOrder.{IsSubset}
use Rattle.repair.proofs.TriedCells.{one_shown, one_needed, try_stop}
use Rattle.repair.proofs.WantOfMemory.{unless_memory}
use Rattle.attackers.proofs.Holding.{held_guards}
use Rattle.attackers.proofs.Tries.{not_guarding, ready_less, first_less}
use Rattle.attackers.proofs.trying.try_one.Goals as goal

pub invariant_of-attempt : goal.invariant_of-attempt
invariant_of-attempt c = record {
  set = subst (IsReadySet c.args.task.now) (sym c.show.ensures)
      (ready_less c.args.task.now c.args.first.now.flags c.args.progress.now.hidden.flags c.args.cell c.requires.extra c.requires.ready.begins_permitted c.requires.ready.set);
}

pub returns-in_err-trial-clause-err : goal.returns-in_err-trial-clause-err
returns-in_err-trial-clause-err c =
    let task = c.args.task.now in
    let first : List Bool = c.args.first.now.flags in
    let flags : List Bool = c.args.progress.now.hidden.flags in
    let inside : c.args.cell < length flags = omega (arith, c.requires.ready.set.each, task.fits.one_each, c.requires.inside) in
    let has : HasFault (case_of task) task.soles.now task.attacks.now (show flags c.args.cell) task.limit c.in_err-trial.field-0.0.fault c.in_err-trial.field-0.0.row =
    subst (λ (f : List Bool). HasFault (case_of task) task.soles.now task.attacks.now f task.limit c.in_err-trial.field-0.0.fault c.in_err-trial.field-0.0.row) c.show.ensures c.in_err-trial.ensures.err in
    let p = err_from_is_err_and c.from_residual.result c.from_residual.ensures.1 in
    rw (p.1, p.2) (λ larger before.
    unless_memory c.in_err-trial.field-0.0.fault
    (subst (λ (l : List ℕ). IsTryStop (case_of task) task.soles.now task.attacks.now first larger task.limit c.in_err-trial.field-0.0.fault c.in_err-trial.field-0.0.row l) (sym c.in-Ok.ensures.ok)
    (try_stop (λ (need : ExtraNeed). need.subject) (IsNeedFor (case_of task) task.soles.now task.attacks.now) (λ (set : List Bool). GuardsAll (case_of task) task.soles.now set task.attacks.now) (may_drop first) (λ set. HasFault (case_of task) task.soles.now task.attacks.now set task.limit c.in_err-trial.field-0.0.fault c.in_err-trial.field-0.0.row) larger c.args.cell flags c.args.found.now.needs c.args.found.now.shown (λ f need. not_guarding (case_of task) task.soles.now task.attacks.now f need task.fits.one_each task.fits.are_attacks) inside c.requires.extra has before.are_tried)))

pub returns-in-Renewed-clause-set : goal.returns-in-Renewed-clause-set
returns-in-Renewed-clause-set c =
    on_ok (IsReadySet c.args.task.now c.take_new.new.progress.hidden.flags) c.take_new.result
    (subst (IsReadySet c.args.task.now) (sym (c.take_new.ensures.flags ∙ c.show.ensures))
    (ready_less c.args.task.now c.args.first.now.flags c.args.progress.now.hidden.flags c.args.cell c.requires.extra c.requires.ready.begins_permitted c.requires.ready.set))

pub returns-in-Renewed-clause-ok : goal.returns-in-Renewed-clause-ok
returns-in-Renewed-clause-ok c =
    let task = c.args.task.now in
    let first : List Bool = c.args.first.now.flags in
    let flags : List Bool = c.args.progress.now.hidden.flags in
    let inside : c.args.cell < length flags = omega (arith, c.requires.ready.set.each, task.fits.one_each, c.requires.inside) in
    let told : IsTrial task c.show.new.self.flags c.args.cell c.as_slice.result.now (trial.Renewed c.in-Renewed.news) = subst (IsTrial task c.show.new.self.flags c.args.cell c.as_slice.result.now) c.in-Renewed.is c.in_ok-trial.ensures.ok in
    ok_more c.take_new.result (λ guards larger before.
    let held : HoldGuards (case_of task) task.soles.now (show flags c.args.cell) task.attacks.now c.take_new.new.progress.tables =
    subst (λ (g : List WorldLine). HoldGuards (case_of task) task.soles.now (show flags c.args.cell) task.attacks.now g) (sym guards)
    (subst (λ (f : List Bool). HoldGuards (case_of task) task.soles.now f task.attacks.now (renewed_guards c.args.cell c.args.progress.now.tables c.in-Renewed.news)) c.show.ensures
    (subst (λ (g : List WorldLine). HoldGuards (case_of task) task.soles.now c.show.new.self.flags task.attacks.now (renewed_guards c.args.cell g c.in-Renewed.news)) c.as_slice.ensures told)) in
    record {
      are_tried = subst (λ (f : List Bool). IsTried (case_of task) task.soles.now task.attacks.now first larger (c.args.cell + 1) f c.args.found.now.needs c.push.new.self) (sym (c.take_new.ensures.flags ∙ c.show.ensures))
          (subst (λ (l : List ℕ). IsTried (case_of task) task.soles.now task.attacks.now first larger (c.args.cell + 1) (show flags c.args.cell) c.args.found.now.needs l) (sym c.in-Ok.ensures.ok)
          (one_shown (λ (need : ExtraNeed). need.subject) (IsNeedFor (case_of task) task.soles.now task.attacks.now) (λ (set : List Bool). GuardsAll (case_of task) task.soles.now set task.attacks.now) (may_drop first) larger c.args.cell flags c.args.found.now.needs c.args.found.now.shown inside c.requires.extra (held_guards (case_of task) task.soles.now (show flags c.args.cell) task.attacks.now c.take_new.new.progress.tables task.fits.are_attacks held) before.are_tried));
      holds = subst (λ (f : List Bool). HoldGuards (case_of task) task.soles.now f task.attacks.now c.take_new.new.progress.tables) (sym (c.take_new.ensures.flags ∙ c.show.ensures)) held;
      first_stays = subst (λ (f : List Bool). IsSubset first f) (sym (c.take_new.ensures.flags ∙ c.show.ensures)) (first_less first flags c.args.cell c.requires.extra before.first_stays);
    }) c.take_new.ensures.tables

pub returns-in-Ok-put_back-clause-set : goal.returns-in-Ok-put_back-clause-set
returns-in-Ok-put_back-clause-set c =
    let task = c.args.task.now in
    let flags : List Bool = c.args.progress.now.hidden.flags in
    let inside : c.args.cell < length flags = omega (arith, c.requires.ready.set.each, task.fits.one_each, c.requires.inside) in
    let hidden : is_hidden flags c.args.cell ≡ true = (and_true (is_hidden flags c.args.cell) (not (is_hidden c.args.first.now.flags c.args.cell)) c.requires.extra).0 in
    let same : c.put_back.new.hidden.flags ≡ flags = c.put_back.ensures.flags ∙ ap (λ (f : List Bool). hide f c.args.cell) c.show.ensures ∙ hidden_again flags c.args.cell inside hidden in
    subst (IsReadySet task) (sym same) c.requires.ready.set

pub returns-in-Ok-put_back-clause-ok : goal.returns-in-Ok-put_back-clause-ok
returns-in-Ok-put_back-clause-ok c =
    λ larger before.
    let task = c.args.task.now in
    let first : List Bool = c.args.first.now.flags in
    let flags : List Bool = c.args.progress.now.hidden.flags in
    let inside : c.args.cell < length flags = omega (arith, c.requires.ready.set.each, task.fits.one_each, c.requires.inside) in
    let hidden : is_hidden flags c.args.cell ≡ true = (and_true (is_hidden flags c.args.cell) (not (is_hidden first c.args.cell)) c.requires.extra).0 in
    let same : c.put_back.new.hidden.flags ≡ flags = c.put_back.ensures.flags ∙ ap (λ (f : List Bool). hide f c.args.cell) c.show.ensures ∙ hidden_again flags c.args.cell inside hidden in
    let told : IsTrial task c.show.new.self.flags c.args.cell c.as_slice.result.now (trial.Refused c.in-Refused.need) = subst (IsTrial task c.show.new.self.flags c.args.cell c.as_slice.result.now) c.in-Refused.is c.in_ok-trial.ensures.ok in
    let refuted : IsNeedFor (case_of task) task.soles.now task.attacks.now (show flags c.args.cell) c.in-Refused.need = subst (λ (f : List Bool). IsNeedFor (case_of task) task.soles.now task.attacks.now f c.in-Refused.need) c.show.ensures told.1 in
    let back : c.put_back.new.self.shown ≡ c.args.found.now.shown = c.in-Ok-put_back.ensures.shown c.args.found.now.shown c.args.cell c.in-Ok.ensures.ok in
    record {
      are_tried = subst (λ (f : List Bool). IsTried (case_of task) task.soles.now task.attacks.now first larger (c.args.cell + 1) f c.put_back.new.self.needs c.put_back.new.self.shown) (sym same)
          (subst (λ (rs : List ExtraNeed). IsTried (case_of task) task.soles.now task.attacks.now first larger (c.args.cell + 1) flags rs c.put_back.new.self.shown) (sym c.in-Ok-put_back.ensures.needs)
          (subst (λ (l : List ℕ). IsTried (case_of task) task.soles.now task.attacks.now first larger (c.args.cell + 1) flags (c.args.found.now.needs ++ c.in-Refused.need ∷ []) l) (sym back)
          (one_needed (λ (need : ExtraNeed). need.subject) (IsNeedFor (case_of task) task.soles.now task.attacks.now) (λ (set : List Bool). GuardsAll (case_of task) task.soles.now set task.attacks.now) (may_drop first) larger c.args.cell flags c.args.found.now.needs c.args.found.now.shown c.in-Refused.need inside c.requires.extra told.0 refuted before.are_tried)));
      holds = subst (λ (f : List Bool). HoldGuards (case_of task) task.soles.now f task.attacks.now c.args.progress.now.tables) (sym same) before.holds;
      first_stays = subst (λ (f : List Bool). IsSubset first f) (sym same) before.first_stays;
    }
