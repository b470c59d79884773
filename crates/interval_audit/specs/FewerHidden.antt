-- What tables of a question's problem say of the same question with fewer hidden cells (own).
use Rattle.std.specs.Prelude.{◌≡◌, ℕ, Bool, true, List, FitsSigned, ◌*ℤ◌}
use Rattle.std.specs.Int.{w128}
use Rattle.sdc_base.specs.declared.cell.Cell.{Cell}
use Rattle.sdc_base.specs.declared.relation.Relation.{Relation}
use Rattle.sdc_base.specs.declared.system.System.{System}
use Rattle.sdc_base.specs.declared.fraction.Fraction.{Fraction}
use Rattle.sdc_base.specs.HiddenSets.{is_hidden}
use Rattle.sdc_base.specs.Signs.{HasNone}
use Rattle.worlds.specs.declared.multipliers.Multipliers.{Multipliers}
use Rattle.worlds.specs.declared.world.World.{World}
use Rattle.worlds.specs.RefutationFaults.{IsGivenSum}
use Rattle.interval_audit.specs.declared.question.Question.{Question}
use Rattle.interval_audit.specs.declared.answer.Answer.TheVariants.{Stops}
use Rattle.interval_audit.specs.Answers.{IsTrueAnswer, IsAnswerOf, IsWalkAnswer}
use Rattle.interval_audit.specs.Groups.{Group, IsComponentOf}

-- The question's walk stops short with these multipliers, and so its answer has them where the relations have no signs.
-- It is right if no number is wider than 128 bits when it is checked.
pub record StopsWith (system : System) (cells : List Cell) (flags : List Bool) (question : Question)
    (multipliers : Multipliers) : Type 0 where
  pub best : Fraction
  pub world : World
  pub is_walked : IsWalkAnswer system cells flags question (Stops best world multipliers)
  pub is_read : HasNone system.relations → IsAnswerOf system cells flags question (Stops best world multipliers)
  pub is_right : IsGivenSum system cells flags question.cell question.side multipliers →
      FitsSigned w128 (multipliers.den *ℤ question.target) →
      IsTrueAnswer system cells flags question (Stops best world multipliers)

-- a hidden cell has a component
abbrev pub ComponentExists : Type 0
ComponentExists = (relations : List Relation) (flags : List Bool) (asked : ℕ) → is_hidden flags asked ≡ true →
    (group : Group) × IsComponentOf relations flags asked group

-- and it is that of each of its cells
abbrev pub ComponentIsShared : Type 0
ComponentIsShared = (relations : List Relation) (flags : List Bool) (asked other : ℕ) (group : Group) →
    IsComponentOf relations flags asked group → group other ≡ true → IsComponentOf relations flags other group
