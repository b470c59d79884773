use Rattle.std.proofs.lemmas.Grind.{common_steps}
use Rattle.std.proofs.Common.{◌≡◌, ◌∙◌, ◌≤◌, true, false, arith, sym, subst, rules}
use Rattle.tableau.specs.ProblemForm.{IsWellFormed}
use Rattle.interval_audit.specs.declared.answer.Answer.{Answer}
use Rattle.interval_audit.specs.Answers.{IsReadOff, IsWalkAnswerIn}
use Rattle.interval_audit.specs.Groups.{Group, group_of}
use Rattle.interval_audit.specs.WalkLimits.{IsWalkAnswerWithin}
use Rattle.interval_audit.proofs.CutOff.{limit_below}
use Rattle.interval_audit.proofs.Proper.{problem_is}
use Rattle.interval_audit.proofs.ReadStates.{ended_where}
use Rattle.interval_audit.proofs.QuestionAnswers.{if_ok_more}
use Rattle.interval_audit.proofs.asking.walk_on.Goals as goal

pub problem_over-requires-clause-met : goal.problem_over-requires-clause-met
problem_over-requires-clause-met c = c.args.inquiry.now.met_are

pub start-requires : goal.start-requires
start-requires c =
    let group : Group = group_of c.args.inquiry.now.of.now c.args.inquiry.now.question.cell in
    subst IsWellFormed (sym c.in_ok-problem.ensures) (problem_is c.args.inquiry.now.pattern.system.now c.args.inquiry.now.pattern.cells.now group c.args.inquiry.now.question c.args.inquiry.now.within_most_members)

pub finish-requires-2-clause-ended : goal.finish-requires-2-clause-ended
finish-requires-2-clause-ended c =
    ended_where c.walk.tableau c.read_state-2.ensures.bounded (λ neither. let on : c.can_improve.result ≡ true = c.can_improve.ensures.neither.1 neither in let clash : true ≡ false = sym on ∙ c.if-can_improve.false in absurd cc)

pub returns-clause-read : goal.returns-clause-read
returns-clause-read c =
    let group : Group = group_of c.args.inquiry.now.of.now c.args.inquiry.now.question.cell in
    if_ok_more (λ (answer : Answer). IsReadOff c.args.inquiry.now.pattern.system.now c.args.inquiry.now.pattern.cells.now group c.walk.tableau answer) (λ (answer : Answer). IsWalkAnswerIn c.args.inquiry.now.pattern.system.now c.args.inquiry.now.pattern.cells.now group c.args.inquiry.now.question answer)
    c.finish-2.result (λ answer own. (c.walk.tableau, c.read_state-2.ensures.walked, c.walk.invariant.problem, own)) c.finish-2.ensures.read

pub returns-then-can_improve-clause-short : goal.returns-then-can_improve-clause-short
returns-then-can_improve-clause-short c =
    let inquiry = c.args.inquiry.now in
    let past : c.args.limit ≤ c.walk.made = omega (arith, c.walk-test.false) in
    limit_below inquiry.pattern.system.now inquiry.pattern.cells.now (group_of inquiry.of.now inquiry.question.cell) inquiry.question c.args.limit c.walk.made c.walk.tableau.improved c.walk.tableau.problem past c.walk.invariant.improved c.walk.invariant.problem c.read_state-2.ensures.short

pub returns-clause-made : goal.returns-clause-made
returns-clause-made c =
    let group : Group = group_of c.args.inquiry.now.of.now c.args.inquiry.now.question.cell in
    let most : c.walk.tableau.improved ≤ c.args.limit = omega (arith, c.walk.invariant.improved) in
    if_ok_more (λ (answer : Answer). IsReadOff c.args.inquiry.now.pattern.system.now c.args.inquiry.now.pattern.cells.now group c.walk.tableau answer) (λ (answer : Answer). IsWalkAnswerWithin c.args.inquiry.now.pattern.system.now c.args.inquiry.now.pattern.cells.now group c.args.inquiry.now.question c.args.limit answer)
    c.finish-2.result (λ answer own. (c.walk.tableau, c.read_state-2.ensures.walked, c.walk.invariant.problem, own, most)) c.finish-2.ensures.read

pub returns-in-Wide-clause-cause : goal.returns-in-Wide-clause-cause
returns-in-Wide-clause-cause c = grind (arith, common_steps)

pub finish-requires-clause-ended : goal.finish-requires-clause-ended
finish-requires-clause-ended c = search rules

pub returns-in-Reached-clause-read : goal.returns-in-Reached-clause-read
returns-in-Reached-clause-read c = search rules

pub returns-in-Reached-clause-cause : goal.returns-in-Reached-clause-cause
returns-in-Reached-clause-cause c = search rules

pub returns-in-Reached-clause-made : goal.returns-in-Reached-clause-made
returns-in-Reached-clause-made c = search rules

pub returns-in-Reached-clause-within : goal.returns-in-Reached-clause-within
returns-in-Reached-clause-within c = search rules

pub returns-in-Reached-clause-short : goal.returns-in-Reached-clause-short
returns-in-Reached-clause-short c = search rules

pub returns-clause-cause : goal.returns-clause-cause
returns-clause-cause c = search rules

pub returns-clause-within : goal.returns-clause-within
returns-clause-within c = search rules
