use Rattle.std.proofs.Common.{◌<◌, arith, rules, sym, subst, FitsSigned}
use Rattle.std.specs.Int.{w128}
use Rattle.std.proofs.lemmas.Int.{to_z-of_z}
use Rattle.sdc_base.proofs.Connecting.{hidden-inside}
use Rattle.interval_audit.specs.declared.answer.Answer.{Answer}
use Rattle.interval_audit.specs.Answers.{IsTrueAnswer}
use Rattle.interval_audit.proofs.WholeAnswers.{flow_is_true}
use Rattle.interval_audit.proofs.asking.ask_flow.Goals as goal

pub returns-clause-right : goal.returns-clause-right
returns-clause-right c =
    let below = hidden-inside c.args.hidden.now.flags c.args.question.cell c.requires.hidden in
    let target : FitsSigned w128 c.args.question.target = search rules in
    let answer = simp to_z-of_z at c.in_ok-answer.ensures in
    let inside : c.args.question.cell < c.args.system.now.cells = omega (arith, below, c.requires.ground.each_flag) in
    subst (λ (answer : Answer). IsTrueAnswer c.args.system.now c.args.cells.now c.args.hidden.now.flags c.args.question answer) (sym c.whole_answer.ensures)
    (flow_is_true c.args.system.now c.args.cells.now c.args.hidden.now.flags c.args.question c.in_ok-answer.answer c.requires.ground inside answer)
