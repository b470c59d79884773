-- How large the problem of a question is, and how long its walks can be, by the cells and relations of the asked cell's
-- component (linear programming; the count of rows own).
use Rattle.std.specs.Prelude.{ℕ, ◌+◌, ◌*◌, ◌≤◌, ◌^◌, Bool, List, length}
use Rattle.sdc_base.specs.declared.system.System.{System}
use Rattle.tableau.specs.declared.problem.Problem.{Problem}
use Rattle.interval_audit.specs.declared.question.Question.{Question}
use Rattle.interval_audit.specs.Groups.{Group, IsComponentOf, members}
use Rattle.interval_audit.specs.Labels.{met_relations}

-- how many cells a group has
abbrev pub cell_count : System → Group → ℕ
cell_count system group = length (members group system.cells)

-- how many relations it has: those in which one of its cells stands
abbrev pub relation_count : System → Group → ℕ
relation_count system group = length (met_relations group system.relations)

-- The problem has at most two columns for each cell of the group, and at most two rows for each cell, two for each
-- relation and the target's. Not: without the target's row.
pub record HasQuestionSize (system : System) (group : Group) (problem : Problem) : Type 0 where
  pub columns : problem.columns ≤ 2 * cell_count system group
  pub rows : length problem.rows + 1 ≤ 2 * cell_count system group + 2 * relation_count system group + 1

-- a bound of the steps of a question's walk by its size: 2 to the power of four for each cell, two for each relation
-- and one for the target
abbrev pub size_bound : System → Group → ℕ
size_bound system group = 2 ^ (4 * cell_count system group + 2 * relation_count system group + 1)

-- the limit is at least this bound, in the asked cell's component
abbrev pub IsAmpleForSize : System → List Bool → Question → ℕ → Type 0
IsAmpleForSize system flags question limit =
    (group : Group) → IsComponentOf system.relations flags question.cell group → size_bound system group ≤ limit
