-- Walks that no limit cuts off.
use Rattle.std.proofs.Common.{◌≡◌, ℕ, ◌<◌, ◌≤◌, ◌^◌, List, arith, subst}
use Rattle.std.specs.Prelude.{Result, Ok, Err, IfErr}
use Rattle.sdc_base.specs.declared.cell.Cell.{Cell}
use Rattle.sdc_base.specs.declared.system.System.{System}
use Rattle.tableau.specs.declared.problem.Problem.{Problem}
use Rattle.tableau.specs.Problems.{variable_count}
use Rattle.interval_audit.specs.declared.question.Question.{Question}
use Rattle.interval_audit.specs.declared.answer.Answer.{Answer}
use Rattle.interval_audit.specs.declared.answer.AskFault.{AskFault}
use Rattle.interval_audit.specs.declared.answer.AskFault.TheVariants as fault
use Rattle.interval_audit.specs.Groups.{Group}
use Rattle.interval_audit.specs.Problems.{problem_of}
use Rattle.interval_audit.specs.WalkLimits.{IsCutBelow, IsNotCutOff, walk_bound}

past_limit : (limit made improved bound : ℕ) → limit ≤ made → improved ≡ made → improved < bound → limit < bound
past_limit limit made improved bound past is few = omega (arith, past, is, few)

-- a walk of so many steps is below the bound
pub limit_below : (system : System) (cells : List Cell) (group : Group) (question : Question) (limit made improved : ℕ) (problem : Problem) → limit ≤ made → improved ≡ made → problem ≡ problem_of system cells group question
    → improved < 2 ^ variable_count problem → limit < walk_bound system cells group question
limit_below system cells group question limit made improved problem past is of_question few =
    past_limit limit made improved (walk_bound system cells group question) past is (subst (λ (p : Problem). improved < 2 ^ variable_count p) of_question few)

clash : (limit bound : ℕ) → bound ≤ limit → limit < bound → ⊥
clash limit bound ample below = absurd (omega (arith, ample, below))

pub if_ample : (system : System) (cells : List Cell) (group : Group) (question : Question) (limit : ℕ) (r : Result Answer AskFault) → walk_bound system cells group question ≤ limit
    → IfErr r (λ found. IsCutBelow system cells group question limit found) → IfErr r (λ found. IsNotCutOff found)
if_ample system cells group question limit (Ok answer) ample is = tt
if_ample system cells group question limit (Err (fault.Work walk)) ample is = clash limit (walk_bound system cells group question) ample is
if_ample system cells group question limit (Err (fault.Wide walk place)) ample is = tt
if_ample system cells group question limit (Err (fault.Size asked hidden)) ample is = tt
if_ample system cells group question limit (Err fault.Memory) ample is = tt
