use Rattle.std.proofs.Common.{◌≡◌, ◌∙◌, [], List, Bool, ℕ, length, ap, sym, subst}
use Rattle.worlds.specs.declared.refuted.Refuted.{Refuted}
use Rattle.interval_audit.specs.declared.answer.AskFault.{AskFault}
use Rattle.repair.specs.HidingOrder.{Case, protected_case}
use Rattle.repair.specs.Stops.{StopsFor}
use Rattle.repair.specs.WantOfMemory.{list_with_fault}
use Rattle.repair.specs.QuestionSteps.{IsUnprotected, AreServedOrUnprotected}
use Rattle.repair.proofs.Concluding.{stops_for}
use Rattle.repair.proofs.Repairing.{cannot_by}
use Rattle.repair.proofs.protecting.repaired_verdict.Goals as goal

pub returns-in-Err-clause-stopped : goal.returns-in-Err-clause-stopped
returns-in-Err-clause-stopped c =
    let task : Case = protected_case c.args.task.now.system.now c.args.task.now.cells.now in
    let repairs : List Refuted = c.serve_all-outcome.new.progress.reasons in
    let own = stops_for task c.args.task.now.prices.now c.args.hidden.flags c.serve_all-outcome.new.progress.hidden.flags repairs c.args.task.now.limit c.in-Err.fault c.in-Err.ensures.err in
    let none : c.stop_with.result.shown ≡ list_with_fault c.in-Err.fault [] = c.stop_with.ensures.shown ∙ ap (λ (l : List ℕ). list_with_fault c.in-Err.fault l) c.empty-in-Err.ensures in
    subst (λ (f : AskFault). StopsFor task c.args.task.now.prices.now c.args.hidden.flags c.args.task.now.limit f c.stop_with.result.repairs c.stop_with.result.shown) (sym c.stop_with.ensures.fault)
    (subst (λ (r : List Refuted). StopsFor task c.args.task.now.prices.now c.args.hidden.flags c.args.task.now.limit c.in-Err.fault r c.stop_with.result.shown) (sym c.stop_with.ensures.repairs)
    (subst (λ (l : List ℕ). StopsFor task c.args.task.now.prices.now c.args.hidden.flags c.args.task.now.limit c.in-Err.fault (list_with_fault c.in-Err.fault repairs) l) (sym none) own))

pub returns-in-Some-clause-verdict : goal.returns-in-Some-clause-verdict
returns-in-Some-clause-verdict c =
    let task : Case = protected_case c.args.task.now.system.now c.args.task.now.cells.now in
    let flags : List Bool = c.serve_all-outcome.new.progress.hidden.flags in
    let repairs : List Refuted = c.serve_all-outcome.new.progress.reasons in
    let found : IsUnprotected task flags c.in-Some.unprotected = subst (AreServedOrUnprotected task (length c.args.task.now.questions.now) flags c.serve_all-outcome.new.progress.tables) c.in-Some.is c.in-Ok.ensures.ok in
    cannot_by task c.args.task.now.prices.now c.args.hidden.flags flags repairs found.place (c.in-Some.unprotected.cell, c.in-Some.unprotected.side) c.in-Some.unprotected.multipliers c.args.task.now.fits.one_each c.serve_all-outcome.ensures.ready.each c.serve_all-outcome.ensures.ready.permitted
    c.in-Ok.ensures.repaired.is_repaired.hidden_is c.in-Ok.ensures.repaired.is_repaired.are_repairs found.stopped found.none_breaks
