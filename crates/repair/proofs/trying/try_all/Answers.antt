use Rattle.std.proofs.lemmas.Grind.{common_steps}
use Rattle.std.proofs.Common.{◌≡◌, ◌==◌, ◌∙◌, [], ◌+◌, false, ℕ, List, Bool, length, ap, sym, subst, arith, refl, rules}
use Rattle.std.proofs.lemmas.List.Elements.{All-nil}
use Rattle.worlds.specs.declared.refuted.Refuted.{Refuted}
use Rattle.worlds.specs.ProtectFaults.{asked_of}
use Rattle.worlds.proofs.TrueTests.{err_more, ok_more}
use Rattle.sdc_base.specs.declared.side.Side.{Side}
use Rattle.repair.specs.HidingOrder.{Case, protected_case, is_free_at, hide_subjects, ProtectsAll}
use Rattle.repair.specs.CellTrials.{AreReusableTables, IsReusableTable, IsTrialAnswer, AreTrialAnswers, AnswerTrials, AnswerOnWay, IsRefuted, IsTried, HasFault}
use Rattle.repair.specs.OnTheWay.{IsOfFirst, AreAnswers}
use Rattle.repair.proofs.OnTheWay.{answers_first, trials_later}
use Rattle.repair.specs.TriedCells.{is_open}
use Rattle.repair.proofs.AtHand.{kept_by}
use Rattle.repair.proofs.Growing.{served_protect, all_protected_more}
use Rattle.repair.proofs.TriedCells.{none_tried, one_passed, some_shown, end_stop}
use Rattle.repair.proofs.Tries.{not_protecting, open_says, open_inside}
use Rattle.repair.proofs.WantOfMemory.{unless_memory}
use Rattle.repair.proofs.trying.try_all.Goals as goal

pub cells-init : goal.cells-init
cells-init c =
    let task : Case = protected_case c.args.task.now.system.now c.args.task.now.cells.now in
    let flags : List Bool = c.args.progress.now.hidden.flags in
    let all : List (ℕ × Side) = asked_of 0 c.args.task.now.cells.now in
    record {
      repairs = refl;
      worlds = refl;
      ready = record {
        set = record {
          each = c.requires.served.each;
          permitted = c.requires.served.permitted;
          kept = kept_by task flags all c.args.progress.now.tables c.requires.served.served;
        };
        reusable = subst (AreReusableTables task) (sym c.requires.untried.no_spares) (All-nil (IsReusableTable task));
        last = c.requires.untried.last;
      };
      tried = record {
        are_tried = subst (λ (ns : List Refuted). IsTried task flags 0 flags ns c.args.tried.now.trials.shown) (sym c.requires.untried.no_needs)
            (subst (λ (l : List ℕ). IsTried task flags 0 flags [] l) (sym c.requires.untried.none_shown)
            (none_tried (λ (need : Refuted). need.subject) (IsRefuted task) (ProtectsAll task) (is_free_at task.cells) flags (served_protect task flags all c.args.progress.now.tables c.requires.served.served)));
        answers = subst (AreTrialAnswers task flags 0 flags) (sym c.requires.untried.no_spares) (All-nil (IsTrialAnswer task flags 0 flags));
      };
    }

pub cells-preserved-then-not-is_open : goal.cells-preserved-then-not-is_open
cells-preserved-then-not-is_open c =
    let task : Case = protected_case c.args.task.now.system.now c.args.task.now.cells.now in
    let larger : List Bool = c.args.progress.now.hidden.flags in
    let flags : List Bool = c.cells.progress.hidden.flags in
    let number : ℕ = c.cells.number in
    let before = c.cells.invariant.tried in
    record {
      repairs = c.cells.invariant.repairs;
      worlds = c.cells.invariant.worlds;
      ready = c.cells.invariant.ready;
      tried = record {
        are_tried = one_passed (λ (need : Refuted). need.subject) (IsRefuted task) (ProtectsAll task) (is_free_at task.cells) larger number flags c.cells.tried.trials.needs c.cells.tried.trials.shown
            (ap (λ (f : List Bool). is_open (is_free_at c.args.task.now.cells.now) f c.cells.number) (sym c.as_slice.ensures) ∙ sym c.is_open.ensures ∙ c.if-not-is_open.true) before.are_tried;
        answers = trials_later task larger number (number + 1) flags c.cells.tried.reusable.items (omega arith) before.answers;
      };
    }

pub try_one-requires-clause-is_free : goal.try_one-requires-clause-is_free
try_one-requires-clause-is_free c = (open_says c.args.task.now.cells.now c.cells.progress.hidden.flags c.cells.number (ap (λ (f : List Bool). is_open (is_free_at c.args.task.now.cells.now) f c.cells.number) (sym c.as_slice.ensures) ∙ sym c.is_open.ensures ∙ c.if-not-is_open.false)).0

pub try_one-requires-clause-hidden : goal.try_one-requires-clause-hidden
try_one-requires-clause-hidden c = (open_says c.args.task.now.cells.now c.cells.progress.hidden.flags c.cells.number (ap (λ (f : List Bool). is_open (is_free_at c.args.task.now.cells.now) f c.cells.number) (sym c.as_slice.ensures) ∙ sym c.is_open.ensures ∙ c.if-not-is_open.false)).1

pub returns-clause-err : goal.returns-clause-err
returns-clause-err c =
    let task : Case = protected_case c.args.task.now.system.now c.args.task.now.cells.now in
    let larger : List Bool = c.args.progress.now.hidden.flags in
    let flags : List Bool = c.cells.progress.hidden.flags in
    let shown : List ℕ = c.cells.tried.trials.shown in
    let none : (length shown == 0) ≡ false = ap (λ (l : List ℕ). length l == 0) (sym c.as_slice-2.ensures) ∙ sym c.is_empty.ensures ∙ c.if-is_empty.false in
    let last : c.cells.number ≡ length c.args.task.now.cells.now = omega (arith, c.cells-test.false, c.cells.auto.number-end) in
    let all : IsTried task larger (length c.args.task.now.cells.now) flags c.cells.tried.trials.needs shown = subst (λ n. IsTried task larger n flags c.cells.tried.trials.needs shown) last c.cells.invariant.tried.are_tried in
    err_more c.renew_all.result (λ fault has. unless_memory fault
    (end_stop (λ (need : Refuted). need.subject) (IsRefuted task) (ProtectsAll task) (is_free_at task.cells) (λ set. HasFault task set c.args.task.now.limit fault) larger flags c.cells.tried.trials.needs shown
    (λ f need. not_protecting task f need c.args.task.now.fits.one_each) (λ fewer more within. all_protected_more task fewer more (asked_of 0 task.cells) within) (some_shown shown none) has (length task.cells) (open_inside task.cells flags) all)) c.renew_all.ensures.err

pub returns-then-is_empty-clause-answers : goal.returns-then-is_empty-clause-answers
returns-then-is_empty-clause-answers c =
    λ planned is.
    let task : Case = protected_case c.args.task.now.system.now c.args.task.now.cells.now in
    let repairs : List Refuted = c.args.progress.now.reasons in
    answers_first task planned repairs c.cells.progress.hidden.flags c.cells.progress.tables (subst (AreAnswers task (IsOfFirst planned repairs) (asked_of 0 c.args.task.now.cells.now)) (sym c.cells.invariant.worlds) is.answers)

pub returns-clause-answers : goal.returns-clause-answers
returns-clause-answers c =
    ok_more c.renew_all.result (λ stays planned is.
    let task : Case = protected_case c.args.task.now.system.now c.args.task.now.cells.now in
    let repairs : List Refuted = c.args.progress.now.reasons in
    let flags : List Bool = c.cells.progress.hidden.flags in
    let worlds : AnswerOnWay c.args.task.now planned repairs flags c.cells.progress.tables =
    answers_first task planned repairs flags c.cells.progress.tables (subst (AreAnswers task (IsOfFirst planned repairs) (asked_of 0 c.args.task.now.cells.now)) (sym c.cells.invariant.worlds) is.answers) in
    let last : c.cells.number ≡ length c.args.task.now.cells.now = omega (arith, c.cells-test.false, c.cells.auto.number-end) in
    let reusable : AnswerTrials c.args.task.now planned repairs flags c.cells.tried.reusable.items =
    subst (λ n. AreTrialAnswers task (hide_subjects planned repairs) n flags c.cells.tried.reusable.items) last
    (subst (λ (l : List Bool). AreTrialAnswers task l c.cells.number flags c.cells.tried.reusable.items) is.is_repaired.hidden_is c.cells.invariant.tried.answers) in
    stays planned repairs worlds reusable) c.renew_all.ensures.answers

pub cells-preserved : goal.cells-preserved
cells-preserved c = search rules

pub returns-then-is_empty-clause-served : goal.returns-then-is_empty-clause-served
returns-then-is_empty-clause-served c = grind (arith, common_steps)
