-- The two ends of an interval: questions with the target 2^110 (handbook, feasibility interval; the target own).
use Rattle.std.specs.Prelude.{◌≡◌, ◌⊎◌, ℕ, ◌^◌, Bool, List, pos}
use Rattle.flow_worlds.specs.FlowAnswers.{IsWholeWorldAt}
use Rattle.sdc_base.specs.declared.cell.Cell.{Cell}
use Rattle.sdc_base.specs.declared.side.Side.{Side}
use Rattle.sdc_base.specs.declared.side.Side.TheVariants.{Above, Below}
use Rattle.sdc_base.specs.declared.system.System.{System}
use Rattle.interval_audit.specs.declared.question.Question.{Question}
use Rattle.interval_audit.specs.declared.answer.Answer.{Answer}
use Rattle.interval_audit.specs.declared.answer.Answer.TheVariants.{Reaches, Stops}
use Rattle.interval_audit.specs.declared.answer.AskFault.{AskFault}
use Rattle.interval_audit.specs.Answers.{IsTrueAnswer, IsAnswerOf}
use Rattle.interval_audit.specs.Causes.{IsCauseOf}

-- the question asks how far the cell lies to the side, with the target 2^110
pub record IsEndQuestion (cell : ℕ) (side : Side) (question : Question) : Type 0 where
  pub cell_is : question.cell ≡ cell
  pub side_is : question.side ≡ side
  pub target_is : question.target ≡ pos (2 ^ 110)

-- the answer of such a question is right
abbrev pub IsTrueEnd : System → List Cell → List Bool → ℕ → Side → Answer → Type 0
IsTrueEnd system cells flags cell side answer =
    (question : Question) × IsEndQuestion cell side question × IsTrueAnswer system cells flags question answer

-- the answer is one of such a question
abbrev pub IsEndAnswer : System → List Cell → List Bool → ℕ → Side → Answer → Type 0
IsEndAnswer system cells flags cell side answer =
    (question : Question) × IsEndQuestion cell side question × IsAnswerOf system cells flags question answer

-- The end is a whole number of units, and a world over the denominator 1 attains it: the best value, or 2^110 where the
-- end is open. Not: a best value of 3 over 2.
abbrev pub IsWholeEnd : System → List Cell → List Bool → ℕ → Side → Answer → Type 0
IsWholeEnd system cells flags cell side (Reaches world) =
    IsWholeWorldAt system cells flags cell side (pos (2 ^ 110)) world
IsWholeEnd system cells flags cell side (Stops best world multipliers) = (best.den ≡ pos 1)
    × IsWholeWorldAt system cells flags cell side best.num world

-- such a question has no answer for this cause
abbrev pub IsEndCause : System → List Cell → List Bool → ℕ → Side → ℕ → AskFault → Type 0
IsEndCause system cells flags cell side limit fault =
    (question : Question) × IsEndQuestion cell side question × IsCauseOf system cells flags question limit fault

-- The fault is one of the question below, or one of the question above where that below has an answer.
abbrev pub IsIntervalCause : System → List Cell → List Bool → ℕ → ℕ → AskFault → Type 0
IsIntervalCause system cells flags cell limit fault =
    IsEndCause system cells flags cell Below limit fault
    ⊎ ((answer : Answer) × IsTrueEnd system cells flags cell Below answer
    × IsEndAnswer system cells flags cell Below answer × IsEndCause system cells flags cell Above limit fault)
