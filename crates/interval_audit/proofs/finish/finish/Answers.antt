use Rattle.std.proofs.Common.{◌≡◌, ◌∙◌, true, false, sym, rules, FitsSigned}
use Rattle.std.specs.Int.{w128}
use Rattle.std.proofs.lemmas.Int.{to_z-of_z}
use Rattle.std.proofs.lemmas.Result.{err_from_is_err_and}
use Rattle.interval_audit.specs.Answers.{ReachesTarget}
use Rattle.interval_audit.specs.Groups.{Group, group_of}
use Rattle.interval_audit.specs.WalkStates.{state_of}
use Rattle.interval_audit.proofs.QuestionAnswers.{IsWorldReading, read_off, reached_where, blocked_where}
use Rattle.interval_audit.proofs.Outcomes.{walk_memory}
use Rattle.interval_audit.proofs.ReadStates.{at_end, blocked_really, IsAtEnd}
use Rattle.interval_audit.proofs.finish.finish.Goals as goal

pub returns-in_err-world : goal.returns-in_err-world
returns-in_err-world c =
    let p = err_from_is_err_and c.from_residual.result c.from_residual.ensures.1 in
    rw (p.1, p.2) (walk_memory c.args.inquiry.now c.args.tableau)

pub returns-then-is_product : goal.returns-then-is_product
returns-then-is_product c =
    let group : Group = group_of c.args.inquiry.now.of.now c.args.inquiry.now.question.cell in
    let read : IsWorldReading c.args.inquiry.now.pattern.system.now c.args.inquiry.now.pattern.cells.now c.args.inquiry.now.pattern.hidden.now.flags c.args.inquiry.now.question (state_of c.args.tableau) c.in_ok-world.world = read_off c.args.inquiry.now.pattern.system.now c.args.inquiry.now.pattern.cells.now c.args.inquiry.now.pattern.hidden.now.flags group c.args.inquiry.now.question (state_of c.args.tableau) c.in_ok-world.world c.args.inquiry.now.pattern.one_each.each_cell c.args.inquiry.now.group c.requires.problem c.read_state.ensures.stands c.in_ok-world.ensures.world in
    let ended : IsAtEnd (state_of c.args.tableau) = at_end c.args.tableau c.read_state.ensures.reached c.read_state.ensures.blocked c.requires.ended in
    let den : FitsSigned w128 c.in_ok-world.world.den = search rules in
    let num : FitsSigned w128 c.asked_in-num.result = search rules in
    let target : FitsSigned w128 c.args.inquiry.now.question.target = search rules in
    let yes = simp to_z-of_z at c.is_product.ensures.yes in
    let right : ReachesTarget c.args.inquiry.now.pattern.system.now c.args.inquiry.now.pattern.cells.now c.args.inquiry.now.pattern.hidden.now.flags c.args.inquiry.now.question c.in_ok-world.world = record { is_world = read.is_world; exactly = sym c.asked_in-num.ensures ∙ yes c.if-is_product.true } in
    let reached = reached_where c.args.inquiry.now.pattern.system.now c.args.inquiry.now.pattern.cells.now c.args.inquiry.now.pattern.hidden.now.flags group c.args.inquiry.now.question (state_of c.args.tableau) c.in_ok-world.world c.requires.problem read ended right.exactly in
    record { right = right; read = (sym c.read_state.ensures.objective ∙ reached.reached, c.in_ok-world.ensures.world); cause = tt; within = tt; short = tt }

pub stop-requires-clause-stuck : goal.stop-requires-clause-stuck
stop-requires-clause-stuck c =
    let group : Group = group_of c.args.inquiry.now.of.now c.args.inquiry.now.question.cell in
    let read : IsWorldReading c.args.inquiry.now.pattern.system.now c.args.inquiry.now.pattern.cells.now c.args.inquiry.now.pattern.hidden.now.flags c.args.inquiry.now.question (state_of c.args.tableau) c.in_ok-world.world = read_off c.args.inquiry.now.pattern.system.now c.args.inquiry.now.pattern.cells.now c.args.inquiry.now.pattern.hidden.now.flags group c.args.inquiry.now.question (state_of c.args.tableau) c.in_ok-world.world c.args.inquiry.now.pattern.one_each.each_cell c.args.inquiry.now.group c.requires.problem c.read_state.ensures.stands c.in_ok-world.ensures.world in
    let ended : IsAtEnd (state_of c.args.tableau) = at_end c.args.tableau c.read_state.ensures.reached c.read_state.ensures.blocked c.requires.ended in
    let den : FitsSigned w128 c.in_ok-world.world.den = search rules in
    let num : FitsSigned w128 c.asked_in-num.result = search rules in
    let target : FitsSigned w128 c.args.inquiry.now.question.target = search rules in
    let no = simp to_z-of_z at c.is_product.ensures.no in
    blocked_where c.args.inquiry.now.pattern.system.now c.args.inquiry.now.pattern.cells.now c.args.inquiry.now.pattern.hidden.now.flags group c.args.inquiry.now.question (state_of c.args.tableau) c.in_ok-world.world c.requires.problem read ended
    (λ same. let yes : c.is_product.result ≡ true = no (c.asked_in-num.ensures ∙ same) in let clash : true ≡ false = sym yes ∙ c.if-is_product.false in absurd cc)

pub stop-requires-clause-blocked : goal.stop-requires-clause-blocked
stop-requires-clause-blocked c = blocked_really c.args.tableau c.read_state.ensures.objective (stop-requires-clause-stuck c) c.requires.ended
