-- What the problem of a question has to do with worlds and multipliers (linear duality).
use Rattle.std.specs.Prelude.{◌≡◌, ℕ, Bool, List, length, ℤ, ◌*ℤ◌, ◌≤ℤ◌}
use Rattle.std.specs.List.{zip}
use Rattle.sdc_base.specs.declared.cell.Cell.{Cell}
use Rattle.sdc_base.specs.declared.side.Side.{Side}
use Rattle.sdc_base.specs.declared.system.System.{System}
use Rattle.sdc_base.specs.Forms.{Term, coefficient}
use Rattle.sdc_base.specs.Refutations.{refuting_terms, bound_sum, AreBounded}
use Rattle.sdc_base.specs.Systems.{Numbers}
use Rattle.sdc_base.specs.Worlds.{IsWorld, amount_toward}
use Rattle.interval_audit.specs.Points.{IsPoint, AreDualWeights, comes_to, weighed_bounds}
use Rattle.interval_audit.specs.declared.question.Question.{Question}
use Rattle.interval_audit.specs.Groups.{Group, IsGroup}
use Rattle.interval_audit.specs.Columns.{moves_of}
use Rattle.interval_audit.specs.Labels.{labels, relation_terms}
use Rattle.interval_audit.specs.Problems.{problem_of, rows_of}

-- Each point of a question's problem is a world over the same denominator, in which the asked cell moves to its side by
-- the objective.
abbrev pub PointsAreWorlds : Type 0
PointsAreWorlds =
    (system : System) (cells : List Cell) (flags : List Bool) (group : Group) (question : Question) (den : ℤ)
    (amounts : Numbers) →
    length cells ≡ system.cells → IsGroup system flags group question.cell
    → IsPoint (problem_of system cells group question) den amounts →
    IsWorld system cells flags den (moves_of group amounts)
    × (amount_toward question.side (moves_of group amounts question.cell)
    ≡ comes_to amounts (problem_of system cells group question).objective)

-- and each world, of any denominator, is such a point
abbrev pub WorldsArePoints : Type 0
WorldsArePoints =
    (system : System) (cells : List Cell) (flags : List Bool) (group : Group) (question : Question) (den : ℤ)
    (moves : Numbers) →
    length cells ≡ system.cells → IsGroup system flags group question.cell → IsWorld system cells flags den moves →
    (amounts : Numbers) × IsPoint (problem_of system cells group question) den amounts
    × (amount_toward question.side (moves question.cell)
    ≡ comes_to amounts (problem_of system cells group question).objective)

-- the asked cell so many times to its side, and the relations as many times as weights of rows count for them
abbrev pub refuting_by : System → List Cell → Group → Question → ℤ → List ℤ → List Term
refuting_by system cells group question q weights =
    refuting_terms system.relations question.cell question.side q
    (relation_terms weights (labels system.relations cells group system.cells))

-- what the weights let the asked cell move by at most, q times
abbrev pub dual_value : System → List Cell → Group → List ℤ → ℤ
dual_value system cells group weights = weighed_bounds (zip weights (rows_of system cells group))

-- Dual multipliers count for relations such that every hidden cell with a coefficient above 0 has an upper bound, and
-- the bound sum is at most the dual value.
abbrev pub DualsBound : Type 0
DualsBound =
    (system : System) (cells : List Cell) (flags : List Bool) (group : Group) (question : Question) (q : ℤ)
    (weights : List ℤ) →
    length cells ≡ system.cells → IsGroup system flags group question.cell
    → AreDualWeights (problem_of system cells group question) q weights →
    AreBounded cells flags (coefficient (refuting_by system cells group question q weights))
    × (bound_sum cells flags (coefficient (refuting_by system cells group question q weights))
    ≤ℤ dual_value system cells group weights)

-- a fraction is the best value of a cell to a side: some world moves it by exactly this, and no world moves it further
pub record IsBest (system : System) (cells : List Cell) (flags : List Bool) (asked : ℕ) (side : Side)
    (num den : ℤ) : Type 0 where
  pub attained_den : ℤ
  pub attained_moves : Numbers
  pub attained_world : IsWorld system cells flags attained_den attained_moves
  pub attained : amount_toward side (attained_moves asked) *ℤ den ≡ num *ℤ attained_den
  pub furthest : (other : ℤ) (moves : Numbers) → IsWorld system cells flags other moves
      → (amount_toward side (moves asked) *ℤ den) ≤ℤ (num *ℤ other)

-- A point that attains the value of dual multipliers makes it the best value, and the bound sum is exactly that many
-- times q.
abbrev pub AttainedIsBest : Type 0
AttainedIsBest =
    (system : System) (cells : List Cell) (flags : List Bool) (group : Group) (question : Question) (den : ℤ)
    (amounts : Numbers) (q : ℤ) (weights : List ℤ) →
    length cells ≡ system.cells → IsGroup system flags group question.cell
    → IsPoint (problem_of system cells group question) den amounts
    → AreDualWeights (problem_of system cells group question) q weights →
    q *ℤ comes_to amounts (problem_of system cells group question).objective
    ≡ den *ℤ dual_value system cells group weights →
    IsBest system cells flags question.cell question.side
    (comes_to amounts (problem_of system cells group question).objective) den
    × (bound_sum cells flags (coefficient (refuting_by system cells group question q weights)) *ℤ den
    ≡ q *ℤ comes_to amounts (problem_of system cells group question).objective)
