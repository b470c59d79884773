-- What comes out of questions and intervals.
use Rattle.std.proofs.Common.{ℕ, Bool, List}
use Rattle.std.specs.Prelude.{Result, Ok, Err, IfOk, IfErr}
use Rattle.sdc_base.specs.declared.cell.Cell.{Cell}
use Rattle.sdc_base.specs.declared.system.System.{System}
use Rattle.sdc_base.specs.Signs.{AreSigns, HasNone}
use Rattle.tableau.specs.Tableaus.{TableauWalk}
use Rattle.interval_audit.specs.declared.question.Question.{Question}
use Rattle.interval_audit.specs.declared.answer.Answer.{Answer}
use Rattle.interval_audit.specs.declared.answer.AskFault.{AskFault}
use Rattle.interval_audit.specs.declared.answer.AskFault.TheVariants as fault
use Rattle.interval_audit.specs.declared.inquiry.Inquiry.{Inquiry}
use Rattle.interval_audit.specs.Answers.{IsTrueAnswer, IsAnswerOf, IsWalkAnswer}
use Rattle.interval_audit.specs.Causes.{IsCauseOf}
use Rattle.interval_audit.specs.Inquiries.{IsOutcomeOfWalk}
use Rattle.interval_audit.specs.Outcomes.{IsQuestionOutcome, IsIntervalOutcome}
use Rattle.interval_audit.specs.ProblemSizes.{IsAmpleForSize}
use Rattle.interval_audit.specs.WalkLimits.{HasNoWalk, IsAmple, IsNotCutOff, IsWithinLimit, IsAnswerWithin}
use Rattle.interval_audit.proofs.EndCauses.{memory_wanted}
use Rattle.interval_audit.proofs.QuestionAnswers.{if_ok_more}
use Rattle.interval_audit.proofs.WalkAnswers.{walked_answer}

-- want of memory comes out of a question at any time
pub question_memory : (system : System) (cells : List Cell) (flags : List Bool) (question : Question) (limit : ℕ) → IsQuestionOutcome system cells flags question limit (Err fault.Memory)
question_memory system cells flags question limit = record { right = tt; read = tt; cause = tt; made = λ none. tt; within = tt; short = λ ample. tt; size = λ ample. tt; signed = λ signs are. tt }

-- and out of an interval
pub interval_memory : (system : System) (cells : List Cell) (flags : List Bool) (cell limit : ℕ) → IsIntervalOutcome system cells flags cell limit (Err fault.Memory)
interval_memory system cells flags cell limit = record {
  below = tt;
  above = tt;
  below_read = tt;
  above_read = tt;
  below_whole = λ signs are. tt;
  above_whole = λ signs are. tt;
  cause = memory_wanted system cells flags cell limit;
  signed = λ signs are. tt;
}

-- and where a walk has ended
pub walk_memory : (inquiry : Inquiry) (walk : TableauWalk) → IsOutcomeOfWalk inquiry walk (Err fault.Memory)
walk_memory inquiry walk = record { right = tt; read = tt; cause = λ limit. tt; within = λ limit most. tt; short = λ limit. tt }

-- a fault that has no walk has none that was cut off
uncut : (found : AskFault) → HasNoWalk found → IsNotCutOff found
uncut (fault.Work walk) none = none
uncut (fault.Wide walk place) none = tt
uncut (fault.Size asked hidden) none = tt
uncut fault.Memory none = tt

-- what comes out of a flow
pub flow_outcome : (system : System) (cells : List Cell) (flags : List Bool) (question : Question) (limit : ℕ) (signs : List Bool) (r : Result Answer AskFault) → AreSigns system.relations signs
    → IfOk r (λ answer. IsTrueAnswer system cells flags question answer) → IfOk r (λ answer. IsAnswerOf system cells flags question answer)
    → IfErr r (λ found. (limit : ℕ) → IsCauseOf system cells flags question limit found) → IfErr r (λ found. (limit : ℕ) → IsWithinLimit limit found)
    → IfErr r (λ found. HasNoWalk found) → IsQuestionOutcome system cells flags question limit r
flow_outcome system cells flags question limit signs (Ok answer) are right read cause within no_walk = record {
  right = right;
  read = read;
  cause = tt;
  made = λ none. absurd (none signs are);
  within = tt;
  short = λ ample. tt;
  size = λ ample. tt;
  signed = λ signs are. tt;
}
flow_outcome system cells flags question limit signs (Err found) are right read cause within no_walk = record {
  right = tt;
  read = tt;
  cause = cause limit;
  made = λ none. tt;
  within = within limit;
  short = λ ample. uncut found no_walk;
  size = λ ample. uncut found no_walk;
  signed = λ signs are. no_walk;
}

-- what comes out of a walk where there are no signs
pub walk_outcome : (system : System) (cells : List Cell) (flags : List Bool) (question : Question) (limit : ℕ) (r : Result Answer AskFault) → HasNone system.relations
    → IfOk r (λ answer. IsTrueAnswer system cells flags question answer) → IfOk r (λ answer. IsWalkAnswer system cells flags question answer)
    → IfErr r (λ found. IsCauseOf system cells flags question limit found) → IfOk r (λ answer. IsAnswerWithin system cells flags question limit answer)
    → IfErr r (λ found. IsWithinLimit limit found) → (IsAmple system cells flags question limit → IfErr r (λ found. IsNotCutOff found))
    → (IsAmpleForSize system flags question limit → IfErr r (λ found. IsNotCutOff found)) → IsQuestionOutcome system cells flags question limit r
walk_outcome system cells flags question limit r none right read cause made within short size = record {
  right = right;
  read = if_ok_more (λ (answer : Answer). IsWalkAnswer system cells flags question answer) (λ (answer : Answer). IsAnswerOf system cells flags question answer) r (λ answer is. walked_answer system cells flags question answer none is) read;
  cause = cause;
  made = λ _. made;
  within = within;
  short = short;
  size = size;
  signed = λ signs are. absurd (none signs are);
}
