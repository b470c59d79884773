-- Questions about the levels of cells, and what they give (handbook, feasibility interval; own).
use Rattle.std.specs.Prelude.{◌≡◌, ℕ, List, Bool, FitsSigned, ◌*ℤ◌}
use Rattle.std.specs.Int.{w128}
use Rattle.sdc_base.specs.declared.cell.Cell.{Cell}
use Rattle.sdc_base.specs.declared.side.Side.{Side}
use Rattle.sdc_base.specs.declared.system.System.{System}
use Rattle.sdc_base.specs.Signs.{AreSigns, HasNone}
use Rattle.sdc_base.specs.Worlds.{level_at}
use Rattle.worlds.specs.declared.multipliers.Multipliers.{Multipliers}
use Rattle.worlds.specs.declared.world.World.{World}
use Rattle.worlds.specs.RefutationFaults.{IsGivenSum}
use Rattle.interval_audit.specs.declared.question.Question.{Question}
use Rattle.sdc_base.specs.declared.fraction.Fraction.{Fraction}
use Rattle.interval_audit.specs.declared.answer.Answer.TheVariants.{Reaches, Stops}
use Rattle.interval_audit.specs.declared.answer.AskFault.{AskFault}
use Rattle.interval_audit.specs.Answers.{IsTrueAnswer, IsAnswerOf}
use Rattle.interval_audit.specs.Causes.{IsCauseOf}
use Rattle.interval_audit.specs.FewerHidden.{StopsWith}
use Rattle.kept_questions.specs.declared.kept_answer.KeptAnswer.{KeptAnswer}
use Rattle.kept_questions.specs.declared.kept_answer.KeptAnswer.TheVariants as kept_answer
use Rattle.repair.specs.WantOfMemory.{UnlessMemory}

-- the question whether a cell can be moved to a side as far as its level
pub record IsLevelQuestion (cells : List Cell) (asked : ℕ × Side) (question : Question) : Type 0 where
  pub cell_is : question.cell ≡ asked.0
  pub side_is : question.side ≡ asked.1
  pub target_is : question.target ≡ level_at cells asked.1 asked.0

-- these are the multipliers of the answer of that question for the hidden set, which stops short
pub record AreGiven (system : System) (cells : List Cell) (flags : List Bool) (asked : ℕ × Side)
    (multipliers : Multipliers) : Type 0 where
  pub question : Question
  pub best : Fraction
  pub world : World
  pub is_asked : IsLevelQuestion cells asked question
  pub is_right : IsTrueAnswer system cells flags question (Stops best world multipliers)
  pub is_read : IsAnswerOf system cells flags question (Stops best world multipliers)

-- where a question's walk stops with multipliers, these are the answer's, unless a number is too wide when it is checked
abbrev pub StoppedAreGiven : Type 0
StoppedAreGiven =
    (system : System) (cells : List Cell) (flags : List Bool) (asked : ℕ × Side) (question : Question)
    (multipliers : Multipliers) → HasNone system.relations → IsLevelQuestion cells asked question →
    StopsWith system cells flags question multipliers →
    IsGivenSum system cells flags question.cell question.side multipliers →
    FitsSigned w128 (multipliers.den *ℤ question.target) → AreGiven system cells flags asked multipliers

-- The world is one for one of these sets, and takes the cell exactly to its level: a right answer of that question. Where
-- the relations have signs it is the one that is given.
pub record IsGiven (Is : List Bool → Type 0) (system : System) (cells : List Cell) (asked : ℕ × Side)
    (world : World) : Type 0 where
  pub set : List Bool
  pub is_one : Is set
  pub question : Question
  pub is_asked : IsLevelQuestion cells asked question
  pub is_right : IsTrueAnswer system cells set question (Reaches world)
  pub is_read : (signs : List Bool) → AreSigns system.relations signs
      → IsAnswerOf system cells set question (Reaches world)

-- What is answered for the hidden set: a world that takes the cell exactly to its level, or the multipliers of the
-- answer that stops short.
abbrev pub IsLevelAnswer : System → List Cell → List Bool → ℕ × Side → KeptAnswer → Type 0
IsLevelAnswer system cells flags asked (kept_answer.Reaches world) = IsGiven (λ set. set ≡ flags) system cells asked world
IsLevelAnswer system cells flags asked (kept_answer.Stops multipliers) = AreGiven system cells flags asked multipliers

-- that question, asked of the hidden set, is why there is this fault
pub record IsCausing (system : System) (cells : List Cell) (flags : List Bool) (asked : ℕ × Side) (limit : ℕ)
    (fault : AskFault) : Type 0 where
  pub question : Question
  pub is_asked : IsLevelQuestion cells asked question
  pub cause : IsCauseOf system cells flags question limit fault

-- the same; want of memory has no cause
abbrev pub HasCause : System → List Cell → List Bool → ℕ × Side → ℕ → AskFault → Type 0
HasCause system cells flags asked limit fault =
    UnlessMemory fault (IsCausing system cells flags asked limit fault)
