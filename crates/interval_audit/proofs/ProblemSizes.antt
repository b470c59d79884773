-- How large the problem of a question is.
use Rattle.std.proofs.Common.{◌≡◌, ℕ, ◌+◌, ◌*◌, ◌≤◌, List, [], ◌∷◌, arith, length-append}
use Rattle.std.specs.Prelude.{Result, Ok, Err, IfOk}
use Rattle.std.proofs.Math.Pow.{pow_mono}
use Rattle.sdc_base.specs.declared.cell.Cell.{Cell}
use Rattle.sdc_base.specs.declared.system.System.{System}
use Rattle.tableau.specs.declared.problem.Problem.{Problem}
use Rattle.tableau.specs.Problems.{variable_count, target_row}
use Rattle.interval_audit.specs.declared.question.Question.{Question}
use Rattle.interval_audit.specs.Groups.{Group, members}
use Rattle.interval_audit.specs.ProblemSizes.{HasQuestionSize, cell_count, relation_count, size_bound}
use Rattle.interval_audit.specs.Problems.{problem_of}
use Rattle.interval_audit.specs.WalkLimits.{walk_bound}
use Rattle.interval_audit.proofs.Proper.{rows_long, caps_few}

pub size_is : (system : System) (cells : List Cell) (group : Group) (question : Question) → HasQuestionSize system group (problem_of system cells group question)
size_is system cells group question = record {
  columns = omega arith;
  rows = omega (arith, rows_long system cells group, caps_few cells (members group system.cells));
}

-- what is the problem of a question has its size
pub if_sized : {E : Type 0} (system : System) (cells : List Cell) (group : Group) (question : Question) (r : Result Problem E) → IfOk r (λ problem. problem ≡ problem_of system cells group question) → IfOk r (λ problem. HasQuestionSize system group problem)
if_sized system cells group question (Ok problem) is = rw is (size_is system cells group question)
if_sized system cells group question (Err e) is = tt

numbers_few : (system : System) (cells : List Cell) (group : Group) (question : Question) → variable_count (problem_of system cells group question) ≤ 4 * cell_count system group + 2 * relation_count system group + 1
numbers_few system cells group question =
    let problem : Problem = problem_of system cells group question in
    let few : HasQuestionSize system group problem = size_is system cells group question in
    omega (arith, few.columns, few.rows, length-append problem.rows (target_row problem ∷ []))

-- a limit that is enough for the size of a question cuts no walk of it off
pub ample_for_size : (system : System) (cells : List Cell) (group : Group) (question : Question) (limit : ℕ) → size_bound system group ≤ limit → walk_bound system cells group question ≤ limit
ample_for_size system cells group question limit ample =
    let most : walk_bound system cells group question ≤ size_bound system group = pow_mono (numbers_few system cells group question) in
    omega (arith, most, ample)
