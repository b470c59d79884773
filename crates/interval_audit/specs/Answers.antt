-- What answers of questions say, and when a question has none (handbook, feasibility interval; linear duality; faults
-- own).
use Rattle.std.specs.Prelude.{◌≡◌, ◌+◌, ◌≤◌, ◌⊎◌, Bool, List, length, FitsSigned, ℤ, pos, ◌*ℤ◌, ◌<ℤ◌}
use Rattle.std.specs.Int.{w128}
use Rattle.sdc_base.specs.declared.cell.Cell.{Cell}
use Rattle.sdc_base.specs.declared.system.System.{System}
use Rattle.sdc_base.specs.Forms.{coefficient}
use Rattle.sdc_base.specs.Refutations.{bound_sum, IsRefutation}
use Rattle.sdc_base.specs.Signs.{AreSigns, HasNone}
use Rattle.sdc_base.specs.Worlds.{amount_toward}
use Rattle.sdc_base.specs.Systems.{number_at}
use Rattle.tableau.specs.Readings.{values_of, slacks_of}
use Rattle.tableau.specs.Steps.{IsReached, IsBlocked}
use Rattle.tableau.specs.Tableaus.{TableauWalk, IsTableauWalk}
use Rattle.tableau.specs.Widths.{IsWideStep}
use Rattle.tableau.specs.declared.step.Step.{Step}
use Rattle.tableau.specs.declared.step.Step.TheVariants.{Improved, Reached, Blocked, Wide}
use Rattle.worlds.specs.declared.world.World.{World}
use Rattle.worlds.specs.declared.multipliers.Multipliers.{Multipliers}
use Rattle.worlds.specs.NumberLists.{terms_of, number_given}
use Rattle.worlds.specs.WorldFaults.{IsGivenWorld}
use Rattle.worlds.specs.RefutationFaults.{IsGivenSum, terms_added}
use Rattle.interval_audit.specs.declared.question.Question.{Question}
use Rattle.sdc_base.specs.declared.fraction.Fraction.{Fraction}
use Rattle.interval_audit.specs.declared.answer.Answer.{Answer}
use Rattle.interval_audit.specs.declared.answer.Answer.TheVariants.{Reaches, Stops}
use Rattle.interval_audit.specs.QuestionLaws.{IsBest}
use Rattle.interval_audit.specs.Groups.{Group, IsComponentOf, members, most_members}
use Rattle.interval_audit.specs.Problems.{problem_of}
use Rattle.interval_audit.specs.Readings.{IsWorldOf, AreMultipliersOf}

-- how far the asked cell moves to its side in a world that is given, over its denominator
abbrev pub asked_move_in : Question → World → ℤ
asked_move_in question world = amount_toward question.side (number_given (terms_of world.moves) question.cell)

-- the world takes the asked cell exactly to the target
pub record ReachesTarget (system : System) (cells : List Cell) (flags : List Bool) (question : Question)
    (world : World) : Type 0 where
  pub is_world : IsGivenWorld system cells flags world
  pub exactly : asked_move_in question world ≡ world.den *ℤ question.target

-- The asked cell stops at the best value, below the target: the world takes it there, no world takes it further, and
-- what the multipliers bound is exactly that, with no number on the way wider than 128 bits, the target times their
-- denominator included. So they refute the target.
pub record StopsShort (system : System) (cells : List Cell) (flags : List Bool) (question : Question) (best : Fraction)
    (world : World) (multipliers : Multipliers) : Type 0 where
  pub is_world : IsGivenWorld system cells flags world
  pub den : best.den ≡ world.den
  pub num : best.num ≡ asked_move_in question world
  pub below : best.num <ℤ (best.den *ℤ question.target)
  pub is_best : IsBest system cells flags question.cell question.side best.num best.den
  pub is_sum : IsGivenSum system cells flags question.cell question.side multipliers
  pub equal : bound_sum cells flags (coefficient (terms_added system question.cell question.side multipliers)) *ℤ
      best.den ≡ multipliers.den *ℤ best.num
  pub product_held : FitsSigned w128 (multipliers.den *ℤ question.target)
  pub refutes : IsRefutation system cells flags question.cell question.side question.target multipliers.den
      multipliers.by_relation

-- the answer is right
abbrev pub IsTrueAnswer : System → List Cell → List Bool → Question → Answer → Type 0
IsTrueAnswer system cells flags question (Reaches world) = ReachesTarget system cells flags question world
IsTrueAnswer system cells flags question (Stops best world multipliers) = StopsShort system cells flags question best
    world multipliers

-- the walk has come to its end: it is reached or blocked
abbrev pub HasEnded : TableauWalk → Type 0
HasEnded walk = IsReached walk.problem walk.table ⊎ IsBlocked walk.problem walk.table

-- what a step says of the walk before and after it
abbrev pub IsStepOutcome : TableauWalk → TableauWalk → Step → Type 0
IsStepOutcome before after Improved = after.improved ≡ before.improved + 1
IsStepOutcome before after Reached = (after ≡ before) × IsReached before.problem before.table
IsStepOutcome before after Blocked = (after ≡ before) × IsBlocked before.problem before.table
IsStepOutcome before after (Wide row column) = (after ≡ before) × IsWideStep before.problem before.table row column

-- the answer is read off where a walk has ended
abbrev pub IsReadOff : System → List Cell → Group → TableauWalk → Answer → Type 0
IsReadOff system cells group walk (Reaches world) = IsReached walk.problem walk.table
    × IsWorldOf system group walk.table.den (number_at (values_of walk.problem walk.table)) world
IsReadOff system cells group walk (Stops best world multipliers) =
    IsBlocked walk.problem walk.table × IsWorldOf system group walk.table.den
    (number_at (values_of walk.problem walk.table)) world
    × AreMultipliersOf system cells group walk.table.den (slacks_of walk.problem walk.table) multipliers

-- the answer is read off the end of a walk on the problem of the question
abbrev pub IsWalkAnswerIn : System → List Cell → Group → Question → Answer → Type 0
IsWalkAnswerIn system cells group question answer =
    (walk : TableauWalk) × IsTableauWalk walk × (walk.problem ≡ problem_of system cells group question)
    × IsReadOff system cells group walk answer

-- the answer is read off the end of the walk of the question in its component
abbrev pub IsWalkAnswer : System → List Cell → List Bool → Question → Answer → Type 0
IsWalkAnswer system cells flags question answer =
    (group : Group) × IsComponentOf system.relations flags question.cell group
    × (length (members group system.cells) ≤ most_members) × IsWalkAnswerIn system cells group question answer

-- the answer is in whole units: the denominators of its world and of its multipliers are 1
abbrev pub IsIntegral : Answer → Type 0
IsIntegral (Reaches world) = world.den ≡ pos 1
IsIntegral (Stops best world multipliers) = (world.den ≡ pos 1) × (multipliers.den ≡ pos 1)

-- The answer is one of the question: where the relations have no signs it is read off the end of the question's walk,
-- and where they have signs it is in whole units. Not: read off a walk where they have signs.
pub record IsAnswerIn (system : System) (cells : List Cell) (group : Group) (question : Question)
    (answer : Answer) : Type 0 where
  pub walked : HasNone system.relations → IsWalkAnswerIn system cells group question answer
  pub whole : (signs : List Bool) → AreSigns system.relations signs → IsIntegral answer

-- the answer is one of the question in its component, of at most so many cells
abbrev pub IsAnswerOf : System → List Cell → List Bool → Question → Answer → Type 0
IsAnswerOf system cells flags question answer =
    (group : Group) × IsComponentOf system.relations flags question.cell group
    × (length (members group system.cells) ≤ most_members) × IsAnswerIn system cells group question answer

-- what a walk of a question answers is one: its walk has one end, and what is read there in lowest terms is one
abbrev pub AnswerIsOne : Type 0
AnswerIsOne =
    (system : System) (cells : List Cell) (flags : List Bool) (question : Question) (one other : Answer)
    → IsWalkAnswer system cells flags question one → IsWalkAnswer system cells flags question other
    → IsTrueAnswer system cells flags question one → IsTrueAnswer system cells flags question other → one ≡ other
