use Rattle.std.proofs.Common.{◌≡◌, List, All, sym, subst}
use Rattle.cost_rule.specs.Costs.{AreCosted}
use Rattle.linked_tables.specs.declared.mark.Mark.{Mark}
use Rattle.modular_plan.specs.Plans.{trail_of}
use Rattle.modular_plan.proofs.SameBooks.{same-costed}
use Rattle.repair.specs.HidingOrder.{protected_case, prices_of}
use Rattle.cell_protection.specs.Protections.{HasText, IsProtectionOf, protection_by}
use Rattle.modular_plan.specs.Methods.{passes_of}
use Rattle.cell_protection.specs.declared.protection.ProtectionOutcome.{ProtectionOutcome}
use Rattle.cell_protection.proofs.Protecting.{if-ok, outcome-moves, stop-moves, text-by}
use Rattle.cell_protection.proofs.protection.protect_cells.Goals as goal

pub verdict_by-outcome-requires-clause-costed : goal.verdict_by-outcome-requires-clause-costed
verdict_by-outcome-requires-clause-costed c =
    subst (λ (marks : List Mark). All (λ (mark : Mark). AreCosted mark.facts) marks) (sym c.marks.ensures) (same-costed c.args.book.now c.trail_for.new.book c.trail_for.ensures.same c.requires.costed)

pub returns-clause-outcome : goal.returns-clause-outcome
returns-clause-outcome c =
    stop-moves c.args.system.now c.args.cells.now c.args.cost c.args.book.now c.trail_for.new.book.marks c.marks.result.now c.args.method c.args.limit c.in_ok-trail.trail.steps c.in-Err.stopped
    c.marks.ensures c.trail_for.ensures.same.facts c.in_ok-trail.ensures.trail c.in-Err.ensures.stopped

pub returns-in-Ok-clause-outcome : goal.returns-in-Ok-clause-outcome
returns-in-Ok-clause-outcome c =
    let all = protected_case c.args.system.now c.args.cells.now in
    let Outcome : ProtectionOutcome → Type 0 = IsProtectionOf all (prices_of c.args.cost c.args.cells.now c.args.book.now.marks) c.args.method (trail_of c.args.book.now c.args.cells.now c.args.cost (passes_of c.args.method)) c.args.limit in
    let by = protection_by c.args.method all c.in_ok-trail.trail.steps c.in-Ok.verdict in
    if-ok (λ made. made ≡ by) Outcome c.certificate_of.result
    (λ made is. subst Outcome (sym is)
    (outcome-moves c.args.system.now c.args.cells.now c.args.cost c.args.book.now c.trail_for.new.book.marks c.marks.result.now c.args.method c.args.limit c.in_ok-trail.trail.steps c.in-Ok.verdict
    c.marks.ensures c.trail_for.ensures.same.facts c.in_ok-trail.ensures.trail c.in-Ok.ensures.verdict))
    c.certificate_of.ensures

pub returns-in-Ok-clause-text : goal.returns-in-Ok-clause-text
returns-in-Ok-clause-text c =
    let all = protected_case c.args.system.now c.args.cells.now in
    let by = protection_by c.args.method all c.in_ok-trail.trail.steps c.in-Ok.verdict in
    if-ok (λ made. made ≡ by) HasText c.certificate_of.result
    (λ made is. subst HasText (sym is)
    (text-by c.args.book.now c.args.system.now c.args.cells.now (prices_of c.args.cost c.args.cells.now c.marks.result.now) c.args.method c.args.cost c.in_ok-trail.trail.steps c.in-Ok.verdict c.requires.narrow c.cells-known.ensures.book c.in_ok-trail.ensures.trail c.in-Ok.ensures.verdict))
    c.certificate_of.ensures
