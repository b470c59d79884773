-- What holds of a question with what it is asked of: its problem, its answers, and why it has none (own).
use Rattle.std.specs.Prelude.{ℕ, ◌≤◌, ℤ, List, Result, IfOk, IfErr}
use Rattle.sdc_base.specs.Forms.{coefficient}
use Rattle.sdc_base.specs.Refutations.{AreBounded}
use Rattle.tableau.specs.Readings.{values_of}
use Rattle.tableau.specs.Tableaus.{TableauWalk}
use Rattle.tableau.specs.declared.problem.Problem.{Problem}
use Rattle.worlds.specs.RefutationFaults.{terms_added}
use Rattle.worlds.specs.declared.multipliers.Multipliers.{Multipliers}
use Rattle.worlds.specs.declared.world.World.{World}
use Rattle.interval_audit.specs.declared.answer.Answer.{Answer}
use Rattle.interval_audit.specs.declared.answer.AskFault.{AskFault}
use Rattle.interval_audit.specs.declared.inquiry.Inquiry.{Inquiry}
use Rattle.interval_audit.specs.Groups.{Group, group_of}
use Rattle.sdc_base.specs.Systems.{number_at}
use Rattle.interval_audit.specs.Problems.{problem_of}
use Rattle.interval_audit.specs.Readings.{IsWorldOf, AreMultipliersOf}
use Rattle.interval_audit.specs.Answers.{IsTrueAnswer, IsReadOff, IsWalkAnswerIn}
use Rattle.interval_audit.specs.Causes.{IsCauseIn}
use Rattle.interval_audit.specs.WalkLimits.{IsCutBelow, IsWithinLimit, IsWalkAnswerWithin}

-- the component of the asked cell
abbrev pub component_of : Inquiry → Group
component_of inquiry = group_of inquiry.of.now inquiry.question.cell

-- the problem of the question in that component
abbrev pub problem_for : Inquiry → Problem
problem_for inquiry =
    problem_of inquiry.pattern.system.now inquiry.pattern.cells.now (component_of inquiry) inquiry.question

-- the numbers that multipliers add up to are bounded
abbrev pub AddsBounded : Inquiry → Multipliers → Type 0
AddsBounded inquiry multipliers =
    AreBounded inquiry.pattern.cells.now inquiry.pattern.hidden.now.flags
    (coefficient (terms_added inquiry.pattern.system.now inquiry.question.cell inquiry.question.side multipliers))

-- the answer is right
abbrev pub IsRightFor : Inquiry → Answer → Type 0
IsRightFor inquiry answer =
    IsTrueAnswer inquiry.pattern.system.now inquiry.pattern.cells.now inquiry.pattern.hidden.now.flags
    inquiry.question answer

-- the answer is what a walk of the question that has ended gives
abbrev pub IsReadOffWalk : Inquiry → TableauWalk → Answer → Type 0
IsReadOffWalk inquiry walk answer =
    IsReadOff inquiry.pattern.system.now inquiry.pattern.cells.now (component_of inquiry) walk answer

-- the answer is what the walk of the question gives
abbrev pub IsGivenByWalk : Inquiry → Answer → Type 0
IsGivenByWalk inquiry answer =
    IsWalkAnswerIn inquiry.pattern.system.now inquiry.pattern.cells.now (component_of inquiry) inquiry.question answer

-- the same by a walk of at most so many improvements
abbrev pub IsGivenWithin : Inquiry → ℕ → Answer → Type 0
IsGivenWithin inquiry limit answer =
    IsWalkAnswerWithin inquiry.pattern.system.now inquiry.pattern.cells.now (component_of inquiry) inquiry.question
    limit answer

-- why there is no answer by a walk of at most so many improvements
abbrev pub IsCauseFor : Inquiry → ℕ → AskFault → Type 0
IsCauseFor inquiry limit fault =
    IsCauseIn inquiry.pattern.system.now inquiry.pattern.cells.now inquiry.pattern.hidden.now.flags
    (component_of inquiry) inquiry.question limit fault

-- only a limit below the bound of the question's walks cuts one off
abbrev pub IsCutOffBelow : Inquiry → ℕ → AskFault → Type 0
IsCutOffBelow inquiry limit fault =
    IsCutBelow inquiry.pattern.system.now inquiry.pattern.cells.now (component_of inquiry) inquiry.question limit fault

-- What comes out where a walk has ended. An answer is right, and read off the walk. A fault has its cause, and its walk
-- keeps to each limit that this one keeps to; only a limit below the bound of the question's walks cuts one off.
pub record IsOutcomeOfWalk (inquiry : Inquiry) (walk : TableauWalk) (result : Result Answer AskFault) : Type 0 where
  pub right : IfOk result (λ answer. IsRightFor inquiry answer)
  pub read : IfOk result (λ answer. IsReadOffWalk inquiry walk answer)
  pub cause : IfErr result (λ fault. (limit : ℕ) → IsCauseFor inquiry limit fault)
  pub within : IfErr result (λ fault. (limit : ℕ) → walk.improved ≤ limit → IsWithinLimit limit fault)
  pub short : IfErr result (λ fault. (limit : ℕ) → IsCutOffBelow inquiry limit fault)

-- the world is the one that the amounts of a walk's columns make
abbrev pub IsWorldOfWalk : Inquiry → TableauWalk → World → Type 0
IsWorldOfWalk inquiry walk world =
    IsWorldOf inquiry.pattern.system.now (component_of inquiry) walk.table.den
    (number_at (values_of walk.problem walk.table)) world

-- the multipliers are those that weights of the rows make over the denominator of a walk
abbrev pub AreMultipliersOfWalk : Inquiry → TableauWalk → List ℤ → Multipliers → Type 0
AreMultipliersOfWalk inquiry walk weights multipliers =
    AreMultipliersOf inquiry.pattern.system.now inquiry.pattern.cells.now (component_of inquiry) walk.table.den
    weights multipliers
