-- Which limits cut no walk of a question off, and how many improvements a walk makes under a limit (own).
use Rattle.std.specs.Prelude.{◌≡◌, ℕ, ◌<◌, ◌≤◌, ◌^◌, Bool, List}
use Rattle.sdc_base.specs.declared.cell.Cell.{Cell}
use Rattle.sdc_base.specs.declared.system.System.{System}
use Rattle.tableau.specs.Problems.{variable_count}
use Rattle.tableau.specs.Tableaus.{TableauWalk, IsTableauWalk}
use Rattle.interval_audit.specs.declared.question.Question.{Question}
use Rattle.interval_audit.specs.declared.answer.Answer.{Answer}
use Rattle.interval_audit.specs.declared.answer.AskFault.{AskFault}
use Rattle.interval_audit.specs.declared.answer.AskFault.TheVariants as fault
use Rattle.interval_audit.specs.declared.answer.WidePlace.TheVariants.{Pivot, Refutation}
use Rattle.interval_audit.specs.Answers.{IsReadOff}
use Rattle.interval_audit.specs.Groups.{Group, IsComponentOf}
use Rattle.interval_audit.specs.Problems.{problem_of}

-- how many sets of columns and slacks the question's problem has; no basis comes twice in a walk, so it makes fewer
-- steps
abbrev pub walk_bound : System → List Cell → Group → Question → ℕ
walk_bound system cells group question = 2 ^ variable_count (problem_of system cells group question)

-- the limit is at least this bound, in the asked cell's component
abbrev pub IsAmple : System → List Cell → List Bool → Question → ℕ → Type 0
IsAmple system cells flags question limit =
    (group : Group) → IsComponentOf system.relations flags question.cell group
    → walk_bound system cells group question ≤ limit

-- the fault is no walk that was cut off at its limit
abbrev pub IsNotCutOff : AskFault → Type 0
IsNotCutOff (fault.Work walk) = ⊥
IsNotCutOff (fault.Wide walk place) = Unit {0}
IsNotCutOff (fault.Size asked hidden) = Unit {0}
IsNotCutOff fault.Memory = Unit {0}

-- only a limit below the bound cuts a walk off
abbrev pub IsCutBelow : System → List Cell → Group → Question → ℕ → AskFault → Type 0
IsCutBelow system cells group question limit (fault.Work walk) = limit < walk_bound system cells group question
IsCutBelow system cells group question limit (fault.Wide walk place) = Unit {0}
IsCutBelow system cells group question limit (fault.Size asked hidden) = Unit {0}
IsCutBelow system cells group question limit fault.Memory = Unit {0}

-- the fault has no walk: it is neither one that was cut off nor one that needs a wide number
abbrev pub HasNoWalk : AskFault → Type 0
HasNoWalk (fault.Work walk) = ⊥
HasNoWalk (fault.Wide walk place) = ⊥
HasNoWalk (fault.Size asked hidden) = Unit {0}
HasNoWalk fault.Memory = Unit {0}

-- The walk of a fault made at most as many improvements as the limit says: exactly so many where it was cut off, and
-- fewer where its next step needs a wide number. So a walk that has made its limit is cut off, whether or not its next
-- step is wide.
abbrev pub IsWithinLimit : ℕ → AskFault → Type 0
IsWithinLimit limit (fault.Work walk) = walk.tableau.improved ≡ limit
IsWithinLimit limit (fault.Wide walk (Pivot row column)) = walk.tableau.improved < limit
IsWithinLimit limit (fault.Wide walk (Refutation cell)) = walk.tableau.improved ≤ limit
IsWithinLimit limit (fault.Size asked hidden) = Unit {0}
IsWithinLimit limit fault.Memory = Unit {0}

-- the answer is read off the end of a walk on the problem of the question that made at most so many improvements
abbrev pub IsWalkAnswerWithin : System → List Cell → Group → Question → ℕ → Answer → Type 0
IsWalkAnswerWithin system cells group question limit answer =
    (walk : TableauWalk) × IsTableauWalk walk × (walk.problem ≡ problem_of system cells group question)
    × IsReadOff system cells group walk answer × (walk.improved ≤ limit)

-- the same in the question's component
abbrev pub IsAnswerWithin : System → List Cell → List Bool → Question → ℕ → Answer → Type 0
IsAnswerWithin system cells flags question limit answer =
    (group : Group) × IsComponentOf system.relations flags question.cell group
    × IsWalkAnswerWithin system cells group question limit answer
