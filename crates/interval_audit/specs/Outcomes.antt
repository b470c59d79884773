-- What can be asked about a hidden cell, and what comes out of a question and of an interval (handbook, feasibility
-- interval; limits and faults own).
use Rattle.std.specs.Prelude.{◌≡◌, ◌≤◌, ℕ, Bool, true, List, Result, IfOk, IfErr}
use Rattle.sdc_base.specs.Patterns.{IsPattern}
use Rattle.sdc_base.specs.HiddenSets.{is_hidden}
use Rattle.sdc_base.specs.Signs.{AreSigns, HasNone}
use Rattle.sdc_base.specs.declared.cell.Cell.{Cell}
use Rattle.sdc_base.specs.declared.side.Side.TheVariants.{Above, Below}
use Rattle.sdc_base.specs.declared.system.System.{System}
use Rattle.interval_audit.specs.declared.question.Question.{Question}
use Rattle.interval_audit.specs.declared.answer.Answer.{Answer}
use Rattle.interval_audit.specs.declared.answer.AskFault.{AskFault}
use Rattle.interval_audit.specs.declared.ends.TwoEnds.{TwoEnds}
use Rattle.interval_audit.specs.Answers.{IsTrueAnswer, IsAnswerOf}
use Rattle.interval_audit.specs.Causes.{IsCauseOf}
use Rattle.interval_audit.specs.Ends.{IsTrueEnd, IsEndAnswer, IsWholeEnd, IsIntervalCause}
use Rattle.interval_audit.specs.ProblemSizes.{IsAmpleForSize}
use Rattle.interval_audit.specs.WalkLimits.{HasNoWalk, IsAmple, IsNotCutOff, IsWithinLimit, IsAnswerWithin}

-- A cell can be asked about: there are a cell and a flag for each cell of the system, the cell is hidden, and the walk
-- may make a step.
pub record CanBeAsked (system : System) (cells : List Cell) (flags : List Bool) (cell limit : ℕ) : Type 0 where
  pub ground : IsPattern system cells flags
  pub hidden : is_hidden flags cell ≡ true
  pub some_steps : 1 ≤ limit

-- What comes out of a question. An answer is right, and one of the question; where the relations have no signs, its walk
-- keeps to the limit. A fault has its cause, and its walk keeps to the limit too. No walk is cut off under a limit of at
-- least the bound of the question's walks, or that of their problem's size, and where the relations have signs a fault
-- has no walk.
pub record IsQuestionOutcome (system : System) (cells : List Cell) (flags : List Bool) (question : Question) (limit : ℕ)
    (result : Result Answer AskFault) : Type 0 where
  pub right : IfOk result (λ answer. IsTrueAnswer system cells flags question answer)
  pub read : IfOk result (λ answer. IsAnswerOf system cells flags question answer)
  pub cause : IfErr result (λ fault. IsCauseOf system cells flags question limit fault)
  pub made : HasNone system.relations
      → IfOk result (λ answer. IsAnswerWithin system cells flags question limit answer)
  pub within : IfErr result (λ fault. IsWithinLimit limit fault)
  pub short : IsAmple system cells flags question limit → IfErr result (λ fault. IsNotCutOff fault)
  pub size : IsAmpleForSize system flags question limit → IfErr result (λ fault. IsNotCutOff fault)
  pub signed : (signs : List Bool) → AreSigns system.relations signs → IfErr result (λ fault. HasNoWalk fault)

-- What comes out of an interval. Each of its two ends is right, and the answer of its question; where the relations have
-- signs, it is whole. A fault has its cause, and where the relations have signs it has no walk.
pub record IsIntervalOutcome (system : System) (cells : List Cell) (flags : List Bool) (cell limit : ℕ)
    (result : Result TwoEnds AskFault) : Type 0 where
  pub below : IfOk result (λ ends. IsTrueEnd system cells flags cell Below ends.below)
  pub above : IfOk result (λ ends. IsTrueEnd system cells flags cell Above ends.above)
  pub below_read : IfOk result (λ ends. IsEndAnswer system cells flags cell Below ends.below)
  pub above_read : IfOk result (λ ends. IsEndAnswer system cells flags cell Above ends.above)
  pub below_whole : (signs : List Bool) → AreSigns system.relations signs
      → IfOk result (λ ends. IsWholeEnd system cells flags cell Below ends.below)
  pub above_whole : (signs : List Bool) → AreSigns system.relations signs
      → IfOk result (λ ends. IsWholeEnd system cells flags cell Above ends.above)
  pub cause : IfErr result (λ fault. IsIntervalCause system cells flags cell limit fault)
  pub signed : (signs : List Bool) → AreSigns system.relations signs → IfErr result (λ fault. HasNoWalk fault)
