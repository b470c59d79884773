use Rattle.std.proofs.Common.{Bool, List, Option, rules, subst}
use Rattle.sdc_base.specs.Signs.{AreSigns, HasNone}
use Rattle.sdc_base.specs.declared.system.System.{System}
use Rattle.interval_audit.specs.Outcomes.{IsQuestionOutcome}
use Rattle.interval_audit.specs.SignedSystems.{AreFound}
use Rattle.interval_audit.proofs.Outcomes.{flow_outcome, walk_outcome}
use Rattle.interval_audit.proofs.signed_system.SignedSystem.ask.Goals as goal

pub returns-in-Some : goal.returns-in-Some
returns-in-Some c =
    let system : System = c.self.inside.system.now in
    let are : AreSigns system.relations c.as_slice.result.now = search rules in
    subst (λ (own : System). IsQuestionOutcome own c.args.cells.now c.args.hidden.now.flags c.args.question c.args.limit c.ask_flow.result) c.self.view_is
    (flow_outcome system c.args.cells.now c.args.hidden.now.flags c.args.question c.args.limit c.as_slice.result.now c.ask_flow.result are c.ask_flow.ensures.right c.ask_flow.ensures.read c.ask_flow.ensures.cause c.ask_flow.ensures.within c.ask_flow.ensures.no_walk)

pub returns-in-None : goal.returns-in-None
returns-in-None c =
    let system : System = c.self.inside.system.now in
    let none : HasNone system.relations = subst (λ (found : Option (List Bool)). AreFound system.relations found) c.in-None.is c.self.invariant in
    let told = c.ask_walk.ensures in
    subst (λ (own : System). IsQuestionOutcome own c.args.cells.now c.args.hidden.now.flags c.args.question c.args.limit c.ask_walk.result) c.self.view_is
    (walk_outcome system c.args.cells.now c.args.hidden.now.flags c.args.question c.args.limit c.ask_walk.result none told.right told.read told.cause told.made told.within told.short told.size)
