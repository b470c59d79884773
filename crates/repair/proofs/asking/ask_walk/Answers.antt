use Rattle.std.proofs.Common.{refl, ap, ◌∙◌, subst}
use Rattle.std.proofs.lemmas.Result.{err_from_is_err_and}
use Rattle.sdc_base.specs.HiddenSets.{is_hidden}
use Rattle.interval_audit.specs.Answers.{IsTrueAnswer, IsAnswerOf}
use Rattle.repair.specs.LevelQuestions.{IsCausing}
use Rattle.repair.proofs.Order.{primary_here}
use Rattle.repair.proofs.WantOfMemory.{unless_memory}
use Rattle.repair.proofs.asking.ask_walk.Goals as goal

pub level_question-aim-requires-clause-primary : goal.level_question-aim-requires-clause-primary
level_question-aim-requires-clause-primary c = primary_here c.args.question.now.cells.now c.args.question.now.asked.0 c.args.question.now.is_askable.primary

pub ask-requires : goal.ask-requires
ask-requires c =
    let own = c.args.question.now in
    record {
      ground = own.is_askable.one_each;
      hidden = ap (λ n. is_hidden own.hidden.now.flags n) c.level_question-aim.ensures.cell_is ∙ own.is_askable.hidden;
      some_steps = own.is_askable.some_steps;
    }

pub returns-in_err-answer-clause-err : goal.returns-in_err-answer-clause-err
returns-in_err-answer-clause-err c =
    let own = c.args.question.now in
    let causing : IsCausing own.system.now own.cells.now own.hidden.now.flags own.asked own.limit c.in_err-answer.field-0.0 = record { question = c.level_question-aim.result; is_asked = c.level_question-aim.ensures; cause = c.in_err-answer.ensures.cause } in
    let p = err_from_is_err_and c.from_residual.result c.from_residual.ensures.1 in
    rw (p.1, p.2) (unless_memory c.in_err-answer.field-0.0 causing)

pub returns-in-Reaches-clause-ok : goal.returns-in-Reaches-clause-ok
returns-in-Reaches-clause-ok c =
    let own = c.args.question.now in
    record {
      set = own.hidden.now.flags;
      is_one = refl;
      question = c.level_question-aim.result;
      is_asked = c.level_question-aim.ensures;
      is_right = subst (IsTrueAnswer own.system.now own.cells.now own.hidden.now.flags c.level_question-aim.result) c.in-Reaches.is c.in_ok-answer.ensures.right;
      is_read = λ signs are. subst (IsAnswerOf own.system.now own.cells.now own.hidden.now.flags c.level_question-aim.result) c.in-Reaches.is c.in_ok-answer.ensures.read;
    }

pub returns-clause-ok : goal.returns-clause-ok
returns-clause-ok c =
    let own = c.args.question.now in
    record {
      question = c.level_question-aim.result;
      best = c.in-Stops.best;
      world = c.in-Stops.world;
      is_asked = c.level_question-aim.ensures;
      is_right = subst (IsTrueAnswer own.system.now own.cells.now own.hidden.now.flags c.level_question-aim.result) c.in-Stops.is c.in_ok-answer.ensures.right;
      is_read = subst (IsAnswerOf own.system.now own.cells.now own.hidden.now.flags c.level_question-aim.result) c.in-Stops.is c.in_ok-answer.ensures.read;
    }
