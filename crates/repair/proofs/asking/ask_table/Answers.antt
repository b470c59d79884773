use Rattle.std.proofs.Common.{ap, ◌∙◌, sym, subst}
use Rattle.sdc_base.specs.declared.system.System.{System}
use Rattle.sdc_base.specs.HiddenSets.{is_hidden}
use Rattle.sdc_base.specs.Signs.{HasNone}
use Rattle.interval_audit.specs.Answers.{IsTrueAnswer}
use Rattle.interval_audit.specs.declared.answer.Answer.TheVariants as answer
use Rattle.kept_questions.specs.KeptAnswers.{IsKeptStop}
use Rattle.repair.proofs.Answering.{kept_answers}
use Rattle.repair.proofs.Order.{primary_here}
use Rattle.repair.proofs.asking.ask_table.Goals as goal

pub level_question-aim-requires-clause-primary : goal.level_question-aim-requires-clause-primary
level_question-aim-requires-clause-primary c = primary_here c.args.question.now.cells.now c.args.question.now.asked.0 c.args.question.now.is_askable.primary

pub ask-requires : goal.ask-requires
ask-requires c = record {
  hidden = ap (λ n. is_hidden c.args.question.now.hidden.now.flags n) c.level_question-aim.ensures.cell_is ∙ c.args.question.now.is_askable.hidden;
}

pub returns : goal.returns
returns c =
    let own = c.args.question.now in
    let none : HasNone own.system.now.relations = c.has_signs.ensures.none c.if-has_signs.false in
    record {
      answer = kept_answers own.system.now own.cells.now own.hidden.now.flags own.asked c.level_question-aim.result c.ask.result c.level_question-aim.ensures none
          (λ world is. subst (λ (s : System). IsTrueAnswer s own.cells.now own.hidden.now.flags c.level_question-aim.result (answer.Reaches world)) c.system.ensures (c.ask.ensures.reaches world is))
          (λ m is. subst (λ (s : System). IsKeptStop s own.cells.now own.hidden.now.flags c.level_question-aim.result m) c.system.ensures (c.ask.ensures.stops (subst (λ (s : System). HasNone s.relations) (sym c.system.ensures) none) m is));
    }
