use Rattle.std.proofs.Common.{◌≡◌, ◌<◌, ◌+◌, ◌++◌, ◌∷◌, [], ◌∙◌, ℕ, List, Bool, true, length, ap, sym, subst, arith, None, Some}
use Rattle.std.proofs.lemmas.Result.{err_from_is_err_and}
use Rattle.std.proofs.lemmas.Option.{slice_get_within}
use Rattle.worlds.specs.declared.refuted.Refuted.{Refuted}
use Rattle.worlds.specs.declared.world.World.{World}
use Rattle.worlds.specs.ProtectFaults.{asked_of}
use Rattle.repair.specs.HidingOrder.{Case, protected_case, is_free_at, ProtectsAll}
use Rattle.sdc_base.specs.HiddenSets.{hide, show}
use Rattle.repair.specs.CellTrials.{AreKept, AreReusableTables, AreTrialAnswers, ProtectsBeforeOr, IsRefuted, IsTried, IsTryStop, HasFault}
use Rattle.sdc_base.specs.declared.side.Side.{Side}
use Rattle.repair.proofs.AtHand.{protects_all, spares_left}
use Rattle.repair.specs.OnTheWay.{IsOfTrial}
use Rattle.repair.proofs.OnTheWay.{trial_now, trials_set, trials_tried, trials_left}
use Rattle.repair.proofs.Tries.{hidden_again, not_protecting, open_by}
use Rattle.repair.proofs.TriedCells.{one_shown, one_needed, try_stop}
use Rattle.repair.proofs.WantOfMemory.{unless_memory}
use Rattle.repair.specs.Attempts.{IsPermittedSet, IsTriedSet}
use Rattle.repair.proofs.Attempts.{tried_less}
use Rattle.repair.proofs.trying.try_one.Goals as goal

pub invariant_of-attempt : goal.invariant_of-attempt
invariant_of-attempt c =
    let task : Case = protected_case c.args.task.now.system.now c.args.task.now.cells.now in
    let less : IsTriedSet task (show c.args.progress.now.hidden.flags c.args.cell) c.args.progress.now.tables = tried_less task c.args.progress.now.hidden.flags c.args.progress.now.tables c.args.cell c.requires.is_free c.requires.ready.set in
    record {
      set = subst (λ (f : List Bool). IsPermittedSet task f) (sym c.show.ensures) (record { each = less.each; permitted = less.permitted });
    }

pub first_need-requires : goal.first_need-requires
first_need-requires c =
    let task : Case = protected_case c.args.task.now.system.now c.args.task.now.cells.now in
    record {
      at_hand = record {
        kept = subst (λ (ws : List World). AreKept task (asked_of 0 c.args.task.now.cells.now) ws) (sym c.as_slice.ensures) c.requires.ready.set.kept;
        reusable = c.requires.ready.reusable;
        last = c.requires.ready.last;
      };
    }

pub returns-in_err-found-clause-err : goal.returns-in_err-found-clause-err
returns-in_err-found-clause-err c =
    let task : Case = protected_case c.args.task.now.system.now c.args.task.now.cells.now in
    let flags : List Bool = c.args.progress.now.hidden.flags in
    let inside : c.args.cell < length flags = omega (arith, c.requires.ready.set.each, c.args.task.now.fits.one_each, slice_get_within c.args.task.now.cells.now c.args.cell c.requires.is_free.cell c.requires.is_free.found) in
    let has : HasFault task (show flags c.args.cell) c.args.task.now.limit c.in_err-found.field-0.0 = subst (λ (f : List Bool). HasFault task f c.args.task.now.limit c.in_err-found.field-0.0) c.show.ensures c.in_err-found.ensures.err in
    let p = err_from_is_err_and c.from_residual.result c.from_residual.ensures.1 in
    rw (p.1, p.2) (λ larger before.
    unless_memory c.in_err-found.field-0.0
    (subst (λ (l : List ℕ). IsTryStop task larger c.args.task.now.limit c.in_err-found.field-0.0 l) (sym c.in-Ok.ensures.ok)
    (try_stop (λ (need : Refuted). need.subject) (IsRefuted task) (ProtectsAll task) (is_free_at task.cells) (λ set. HasFault task set c.args.task.now.limit c.in_err-found.field-0.0) larger c.args.cell flags c.args.tried.now.trials.needs c.args.tried.now.trials.shown (λ f need. not_protecting task f need c.args.task.now.fits.one_each) inside (open_by task.cells flags c.args.cell c.requires.is_free c.requires.hidden) has before.are_tried)))

pub returns-in-None-clause-ready : goal.returns-in-None-clause-ready
returns-in-None-clause-ready c =
    let task : Case = protected_case c.args.task.now.system.now c.args.task.now.cells.now in
    record {
      set = subst (λ (f : List Bool). IsTriedSet task f c.args.progress.now.tables) (sym c.show.ensures)
          (tried_less task c.args.progress.now.hidden.flags c.args.progress.now.tables c.args.cell c.requires.is_free c.requires.ready.set);
      reusable = subst (AreReusableTables task) (sym c.drop_unfit.ensures) (spares_left task c.as_slice-in-None.result.now c.first_need.new.reusable.items c.in_ok-found.ensures.reusable);
      last = c.first_need.ensures.last;
    }

pub returns-in-None-clause-ok : goal.returns-in-None-clause-ok
returns-in-None-clause-ok c =
    λ larger before.
    let task : Case = protected_case c.args.task.now.system.now c.args.task.now.cells.now in
    let flags : List Bool = c.args.progress.now.hidden.flags in
    let inside : c.args.cell < length flags = omega (arith, c.requires.ready.set.each, c.args.task.now.fits.one_each, slice_get_within c.args.task.now.cells.now c.args.cell c.requires.is_free.cell c.requires.is_free.found) in
    let told : ProtectsBeforeOr task c.show.new.self.flags c.args.cell (length c.args.task.now.questions.now) None = subst (ProtectsBeforeOr task c.show.new.self.flags c.args.cell (length c.args.task.now.questions.now)) c.in-None.is c.in_ok-found.ensures.ok in
    let all : ProtectsAll task (show flags c.args.cell) = subst (ProtectsAll task) c.show.ensures (protects_all task c.show.new.self.flags (length c.args.task.now.questions.now) (ap (λ (l : List (ℕ × Side)). length l) c.args.task.now.fits.in_order) told) in
    let now : IsOfTrial task larger (c.args.cell + 1) (show flags c.args.cell) (show flags c.args.cell) = trial_now task larger c.args.cell flags inside before.are_tried.rest c.requires.is_free (before.are_tried.within c.args.cell c.requires.hidden) in
    let earlier : AreTrialAnswers task larger (c.args.cell + 1) (show flags c.args.cell) c.args.tried.now.reusable.items = trials_tried task larger c.args.cell flags c.args.tried.now.reusable.items before.answers in
    let answers : AreTrialAnswers task larger (c.args.cell + 1) c.show.new.self.flags c.first_need.new.reusable.items = c.in_ok-found.ensures.answers larger (subst (λ (f : List Bool). IsOfTrial task larger (c.args.cell + 1) f f) (sym c.show.ensures) now) (subst (λ (f : List Bool). AreTrialAnswers task larger (c.args.cell + 1) f c.args.tried.now.reusable.items) (sym c.show.ensures) earlier) in
    record {
      are_tried = subst (λ (f : List Bool). IsTried task larger (c.args.cell + 1) f c.args.tried.now.trials.needs c.push.new.self) (sym c.show.ensures)
          (subst (λ (l : List ℕ). IsTried task larger (c.args.cell + 1) (show flags c.args.cell) c.args.tried.now.trials.needs l) (sym c.in-Ok.ensures.ok)
          (one_shown (λ (need : Refuted). need.subject) (IsRefuted task) (ProtectsAll task) (is_free_at task.cells) larger c.args.cell flags c.args.tried.now.trials.needs c.args.tried.now.trials.shown inside (open_by task.cells flags c.args.cell c.requires.is_free c.requires.hidden) all before.are_tried));
      answers = subst (AreTrialAnswers task larger (c.args.cell + 1) c.show.new.self.flags) (sym c.drop_unfit.ensures) (trials_left task larger (c.args.cell + 1) c.show.new.self.flags c.as_slice-in-None.result.now c.first_need.new.reusable.items answers);
    }

pub returns-in_ok-put_back-in-Some-clause-ready : goal.returns-in_ok-put_back-in-Some-clause-ready
returns-in_ok-put_back-in-Some-clause-ready c =
    let task : Case = protected_case c.args.task.now.system.now c.args.task.now.cells.now in
    let flags : List Bool = c.args.progress.now.hidden.flags in
    let inside : c.args.cell < length flags = omega (arith, c.requires.ready.set.each, c.args.task.now.fits.one_each, slice_get_within c.args.task.now.cells.now c.args.cell c.requires.is_free.cell c.requires.is_free.found) in
    let same : c.put_back.new.hidden.flags ≡ flags = c.put_back.ensures.flags ∙ ap (λ (f : List Bool). hide f c.args.cell) c.show.ensures ∙ hidden_again flags c.args.cell inside c.requires.hidden in
    record {
      set = subst (λ (f : List Bool). IsTriedSet task f c.args.progress.now.tables) (sym same) c.requires.ready.set;
      reusable = c.in_ok-found.ensures.reusable;
      last = c.first_need.ensures.last;
    }

pub returns-in_ok-put_back-in-Some-clause-ok : goal.returns-in_ok-put_back-in-Some-clause-ok
returns-in_ok-put_back-in-Some-clause-ok c =
    λ larger before.
    let task : Case = protected_case c.args.task.now.system.now c.args.task.now.cells.now in
    let flags : List Bool = c.args.progress.now.hidden.flags in
    let inside : c.args.cell < length flags = omega (arith, c.requires.ready.set.each, c.args.task.now.fits.one_each, slice_get_within c.args.task.now.cells.now c.args.cell c.requires.is_free.cell c.requires.is_free.found) in
    let same : c.put_back.new.hidden.flags ≡ flags = c.put_back.ensures.flags ∙ ap (λ (f : List Bool). hide f c.args.cell) c.show.ensures ∙ hidden_again flags c.args.cell inside c.requires.hidden in
    let told : ProtectsBeforeOr task c.show.new.self.flags c.args.cell (length c.args.task.now.questions.now) (Some c.in-Some.need) = subst (ProtectsBeforeOr task c.show.new.self.flags c.args.cell (length c.args.task.now.questions.now)) c.in-Some.is c.in_ok-found.ensures.ok in
    let refuted : IsRefuted task (show flags c.args.cell) c.in-Some.need = subst (λ (f : List Bool). IsRefuted task f c.in-Some.need) c.show.ensures told.1 in
    let back : c.put_back.new.self.shown ≡ c.args.tried.now.trials.shown = c.in_ok-put_back-in-Some.ensures.shown c.args.tried.now.trials.shown c.args.cell c.in-Ok.ensures.ok in
    let now : IsOfTrial task larger (c.args.cell + 1) (show flags c.args.cell) (show flags c.args.cell) = trial_now task larger c.args.cell flags inside before.are_tried.rest c.requires.is_free (before.are_tried.within c.args.cell c.requires.hidden) in
    let earlier : AreTrialAnswers task larger (c.args.cell + 1) (show flags c.args.cell) c.args.tried.now.reusable.items = trials_tried task larger c.args.cell flags c.args.tried.now.reusable.items before.answers in
    let answers : AreTrialAnswers task larger (c.args.cell + 1) c.show.new.self.flags c.first_need.new.reusable.items = c.in_ok-found.ensures.answers larger (subst (λ (f : List Bool). IsOfTrial task larger (c.args.cell + 1) f f) (sym c.show.ensures) now) (subst (λ (f : List Bool). AreTrialAnswers task larger (c.args.cell + 1) f c.args.tried.now.reusable.items) (sym c.show.ensures) earlier) in
    record {
      are_tried = subst (λ (f : List Bool). IsTried task larger (c.args.cell + 1) f c.put_back.new.self.needs c.put_back.new.self.shown) (sym same)
          (subst (λ (rs : List Refuted). IsTried task larger (c.args.cell + 1) flags rs c.put_back.new.self.shown) (sym c.in_ok-put_back-in-Some.ensures.needs)
          (subst (λ (l : List ℕ). IsTried task larger (c.args.cell + 1) flags (c.args.tried.now.trials.needs ++ c.in-Some.need ∷ []) l) (sym back)
          (one_needed (λ (need : Refuted). need.subject) (IsRefuted task) (ProtectsAll task) (is_free_at task.cells) larger c.args.cell flags c.args.tried.now.trials.needs c.args.tried.now.trials.shown c.in-Some.need inside (open_by task.cells flags c.args.cell c.requires.is_free c.requires.hidden) told.0 refuted before.are_tried)));
      answers = subst (λ (f : List Bool). AreTrialAnswers task larger (c.args.cell + 1) f c.first_need.new.reusable.items) (sym c.put_back.ensures.flags) (trials_set task larger (c.args.cell + 1) c.show.new.self.flags c.args.cell true c.first_need.new.reusable.items (omega arith) answers);
    }
