-- When a question has no answer (faults own).
use Rattle.std.specs.Prelude.{◌≡◌, ℕ, ◌<◌, ◌≤◌, ◌⊎◌, Bool, List, length, FitsSigned, ◌*ℤ◌, Err}
use Rattle.std.specs.Int.{w128}
use Rattle.sdc_base.specs.declared.cell.Cell.{Cell}
use Rattle.sdc_base.specs.declared.system.System.{System}
use Rattle.sdc_base.specs.Signs.{HasNone}
use Rattle.tableau.specs.Readings.{slacks_of}
use Rattle.tableau.specs.Steps.{IsBlocked}
use Rattle.tableau.specs.Tableaus.{TableauWalk, IsTableauWalk}
use Rattle.tableau.specs.Widths.{IsWideStep}
use Rattle.worlds.specs.declared.faults.RefutationFault.TheVariants as refutation
use Rattle.worlds.specs.declared.multipliers.Multipliers.{Multipliers}
use Rattle.worlds.specs.RefutationFaults.{IsGivenSum, sum_of_bounds}
use Rattle.interval_audit.specs.declared.question.Question.{Question}
use Rattle.interval_audit.specs.declared.answer.WidePlace.{WidePlace}
use Rattle.interval_audit.specs.declared.answer.WidePlace.TheVariants.{Pivot, Refutation}
use Rattle.interval_audit.specs.declared.answer.AskFault.{AskFault}
use Rattle.interval_audit.specs.declared.answer.AskFault.TheVariants as fault
use Rattle.interval_audit.specs.Groups.{Group, IsComponentOf, members, most_members}
use Rattle.interval_audit.specs.Problems.{problem_of}
use Rattle.interval_audit.specs.Readings.{AreMultipliersOf}
use Rattle.interval_audit.specs.Answers.{HasEnded}

-- the check of multipliers needs at a cell a number wider than 128 bits: for their sum, or, at the asked cell, for the
-- target times their denominator
abbrev pub NeedsWideNumber : System → List Cell → List Bool → Question → Multipliers → ℕ → Type 0
NeedsWideNumber system cells flags question multipliers cell =
    (sum_of_bounds system cells flags question.cell question.side multipliers ≡ Err (refutation.Wide cell))
    ⊎ ((cell ≡ question.cell) × IsGivenSum system cells flags question.cell question.side multipliers
    × (¬ FitsSigned w128 (multipliers.den *ℤ question.target)))

-- a number wider than 128 bits is needed at this place of a walk
abbrev pub NeedsWideAt : System → List Cell → List Bool → Group → Question → TableauWalk → WidePlace → Type 0
NeedsWideAt system cells flags group question walk (Pivot row column) = IsWideStep walk.problem walk.table row column
NeedsWideAt system cells flags group question walk (Refutation cell) =
    IsBlocked walk.problem walk.table × (multipliers : Multipliers)
    × AreMultipliersOf system cells group walk.table.den (slacks_of walk.problem walk.table) multipliers
    × NeedsWideNumber system cells flags question multipliers cell

-- Why there is no answer: a walk over the question's problem that was cut off, or that needs a wide number. A component
-- of more than 4,000 cells is looked for first, so every other cause but want of memory, which is free, comes only
-- where there are at most so many.
abbrev pub IsCauseIn : System → List Cell → List Bool → Group → Question → ℕ → AskFault → Type 0
IsCauseIn system cells flags group question limit (fault.Work walk) =
    (walk.question ≡ question) × (walk.tableau.problem ≡ problem_of system cells group question)
    × (walk.tableau.improved ≡ limit) × (¬ HasEnded walk.tableau) × (length (members group system.cells) ≤ most_members)
    × IsTableauWalk walk.tableau
IsCauseIn system cells flags group question limit (fault.Wide walk place) =
    (walk.question ≡ question) × (walk.tableau.problem ≡ problem_of system cells group question)
    × NeedsWideAt system cells flags group question walk.tableau place
    × (length (members group system.cells) ≤ most_members) × IsTableauWalk walk.tableau
IsCauseIn system cells flags group question limit (fault.Size asked hidden) = (asked ≡ question)
    × (hidden ≡ length (members group system.cells)) × (most_members < hidden)
IsCauseIn system cells flags group question limit fault.Memory = Unit {0}

-- Why the question has no answer; want of memory is free. A walk is cut off, or needs a wide number, only where the
-- relations have no signs.
abbrev pub IsCauseOf : System → List Cell → List Bool → Question → ℕ → AskFault → Type 0
IsCauseOf system cells flags question limit fault.Memory = Unit {0}
IsCauseOf system cells flags question limit (fault.Work walk) = (group : Group)
    × IsComponentOf system.relations flags question.cell group
    × IsCauseIn system cells flags group question limit (fault.Work walk) × HasNone system.relations
IsCauseOf system cells flags question limit (fault.Wide walk place) = (group : Group)
    × IsComponentOf system.relations flags question.cell group
    × IsCauseIn system cells flags group question limit (fault.Wide walk place) × HasNone system.relations
IsCauseOf system cells flags question limit (fault.Size asked hidden) = (group : Group)
    × IsComponentOf system.relations flags question.cell group
    × IsCauseIn system cells flags group question limit (fault.Size asked hidden)
