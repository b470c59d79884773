use Rattle.std.proofs.Common.{◌≡◌, ◌∙◌, List, Bool, ℕ, length, ap, sym, subst}
use Rattle.worlds.specs.ProtectFaults.{asked_of}
use Rattle.interval_audit.specs.declared.answer.AskFault.{AskFault}
use Rattle.worlds.specs.declared.refuted.Refuted.{Refuted}
use Rattle.repair.specs.HidingOrder.{Case, protected_case, hide_subjects, IsSubset}
use Rattle.repair.specs.OnTheWay.{IsOnWay, AreAnswers}
use Rattle.repair.specs.Repairs.{AreRepairs}
use Rattle.repair.specs.Stops.{StopsFor}
use Rattle.repair.specs.WantOfMemory.{list_with_fault}
use Rattle.repair.specs.Verdicts.{AreNeeds}
use Rattle.repair.proofs.Concluding.{stops_trying}
use Rattle.repair.proofs.Tries.{all_needed}
use Rattle.repair.proofs.protecting.narrowed_verdict.Goals as goal

pub returns-clause-verdict : goal.returns-clause-verdict
returns-clause-verdict c =
    λ planned is.
    let task : Case = protected_case c.args.task.now.system.now c.args.task.now.cells.now in
    let repairs : List Refuted = c.try_all-outcome.new.progress.reasons in
    let flags : List Bool = c.try_all-outcome.new.progress.hidden.flags in
    let same : repairs ≡ c.args.repaired.reasons = c.in_default.ensures.reasons in
    let larger : c.args.repaired.hidden.flags ≡ hide_subjects planned repairs = is.is_repaired.hidden_is ∙ ap (λ (r : List Refuted). hide_subjects planned r) (sym same) in
    let tried = c.in_default.ensures.ok in
    c.verdict_of.ensures planned (record {
      are_repairs = subst (λ (r : List Refuted). AreRepairs task c.args.task.now.prices.now planned r) (sym same) is.is_repaired.are_repairs;
      within = subst (λ (f : List Bool). IsSubset flags f) larger tried.within;
      are_needs = subst (λ (f : List Bool). AreNeeds task flags f c.try_all-outcome.new.tried.trials.needs) larger
          (all_needed task c.args.repaired.hidden.flags flags c.try_all-outcome.new.tried.trials.needs c.try_all-outcome.new.tried.trials.shown c.in_default.ensures.served.permitted tried);
      answers = subst (λ (r : List Refuted). AreAnswers task (IsOnWay task planned r flags) (asked_of 0 c.args.task.now.cells.now) c.try_all-outcome.new.progress.tables) (sym same) (c.in_default.ensures.answers planned is);
    })

pub returns-in-Err-clause-stopped : goal.returns-in-Err-clause-stopped
returns-in-Err-clause-stopped c =
    λ planned is.
    let task : Case = protected_case c.args.task.now.system.now c.args.task.now.cells.now in
    let fault : AskFault = c.in-Err.fault in
    let shown : List ℕ = c.try_all-outcome.new.tried.trials.shown in
    let repairs : c.stop_with.result.repairs ≡ list_with_fault fault c.args.repaired.reasons = c.stop_with.ensures.repairs ∙ ap (λ (r : List Refuted). list_with_fault fault r) c.in-Err.ensures.reasons in
    let own = stops_trying task c.args.task.now.prices.now planned c.args.repaired.hidden.flags c.args.repaired.reasons (length (asked_of 0 c.args.task.now.cells.now)) c.args.task.now.limit fault shown is.is_repaired c.in-Err.ensures.err in
    subst (λ (f : AskFault). StopsFor task c.args.task.now.prices.now planned c.args.task.now.limit f c.stop_with.result.repairs c.stop_with.result.shown) (sym c.stop_with.ensures.fault)
    (subst (λ (r : List Refuted). StopsFor task c.args.task.now.prices.now planned c.args.task.now.limit fault r c.stop_with.result.shown) (sym repairs)
    (subst (λ (l : List ℕ). StopsFor task c.args.task.now.prices.now planned c.args.task.now.limit fault (list_with_fault fault c.args.repaired.reasons) l) (sym c.stop_with.ensures.shown) own))
