use Rattle.std.proofs.Common.{ℕ, sym, subst}
use Rattle.interval_audit.specs.declared.answer.Answer.{Answer}
use Rattle.interval_audit.specs.declared.answer.AskFault.{AskFault}
use Rattle.interval_audit.specs.Answers.{IsTrueAnswer, IsAnswerOf}
use Rattle.interval_audit.specs.Causes.{IsCauseOf}
use Rattle.interval_audit.specs.Ends.{IsTrueEnd, IsEndAnswer, IsEndCause}
use Rattle.interval_audit.specs.Outcomes.{CanBeAsked}
use Rattle.interval_audit.proofs.QuestionAnswers.{if_ok_more, if_err_more}
use Rattle.interval_audit.proofs.WholeEnds.{if_whole_end}
use Rattle.interval_audit.proofs.ends.end_of.Goals as goal

pub ask-requires : goal.ask-requires
ask-requires c =
    subst (λ (one : ℕ). CanBeAsked c.args.system.now c.args.cells.now c.args.hidden.now.flags one c.args.limit) (sym c.end_question-question.ensures.cell_is) c.requires

pub returns-clause-right : goal.returns-clause-right
returns-clause-right c =
    if_ok_more (λ (answer : Answer). IsTrueAnswer c.args.system.now c.args.cells.now c.args.hidden.now.flags c.end_question-question.result answer)
    (λ (answer : Answer). IsTrueEnd c.args.system.now c.args.cells.now c.args.hidden.now.flags c.args.asked.0 c.args.asked.1 answer)
    c.ask.result (λ answer own. (c.end_question-question.result, c.end_question-question.ensures, own)) c.ask.ensures.right

pub returns-clause-read : goal.returns-clause-read
returns-clause-read c =
    if_ok_more (λ (answer : Answer). IsAnswerOf c.args.system.now c.args.cells.now c.args.hidden.now.flags c.end_question-question.result answer)
    (λ (answer : Answer). IsEndAnswer c.args.system.now c.args.cells.now c.args.hidden.now.flags c.args.asked.0 c.args.asked.1 answer)
    c.ask.result (λ answer own. (c.end_question-question.result, c.end_question-question.ensures, own)) c.ask.ensures.read

pub returns-clause-whole : goal.returns-clause-whole
returns-clause-whole c =
    if_whole_end c.args.system.now c.args.cells.now c.args.hidden.now.flags c.args.asked.0 c.args.asked.1 c.end_question-question.result c.ask.result c.end_question-question.ensures c.ask.ensures.right c.ask.ensures.read

pub returns-clause-cause : goal.returns-clause-cause
returns-clause-cause c =
    if_err_more (λ (fault : AskFault). IsCauseOf c.args.system.now c.args.cells.now c.args.hidden.now.flags c.end_question-question.result c.args.limit fault)
    (λ (fault : AskFault). IsEndCause c.args.system.now c.args.cells.now c.args.hidden.now.flags c.args.asked.0 c.args.asked.1 c.args.limit fault)
    c.ask.result (λ fault own. (c.end_question-question.result, c.end_question-question.ensures, own)) c.ask.ensures.cause
