-- What walks answer where there are no signs.
use Rattle.std.proofs.Common.{Bool, List}
use Rattle.sdc_base.specs.declared.cell.Cell.{Cell}
use Rattle.sdc_base.specs.declared.system.System.{System}
use Rattle.sdc_base.specs.Signs.{HasNone}
use Rattle.interval_audit.specs.declared.question.Question.{Question}
use Rattle.interval_audit.specs.declared.answer.Answer.{Answer}
use Rattle.interval_audit.specs.Answers.{IsAnswerOf, IsWalkAnswer}

-- an answer that is read off a walk is one of its question, where the relations have no signs
pub walked_answer : (system : System) (cells : List Cell) (flags : List Bool) (question : Question) (answer : Answer) → HasNone system.relations → IsWalkAnswer system cells flags question answer → IsAnswerOf system cells flags question answer
walked_answer system cells flags question answer none is =
    (is.0, is.1, is.2, record { walked = λ _. is.3; whole = λ signs are. absurd (none signs are) })
