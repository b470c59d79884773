-- Circuits: steps that lead round through the asked cell (network flows; own).
use Rattle.std.specs.Prelude.{◌≡◌, ◌≢◌, ℕ, ◌<◌, List, All, length, slice_get, slice_index_or, Some, ℤ, pos, true, false, ◌+ℤ◌, ◌-ℤ◌, ◌*ℤ◌}
use Rattle.std.specs.List.{AllPairs}
use Rattle.sdc_base.specs.declared.cell.Cell.{Cell}
use Rattle.sdc_base.specs.Systems.{number_at}
use Rattle.sdc_base.specs.Worlds.{IsWithinBounds}
use Rattle.sdc_base.specs.Totals.{sum_of}
use Rattle.signed_network.specs.Arcs.{arc_at, at_point, brings_to}
use Rattle.flow_worlds.specs.Steps.{turn_of, step_of}
use Rattle.flow_worlds.specs.Searches.{IsOpenStep, visited}
use Rattle.flow_worlds.specs.declared.search.Visit.{Visit}
use Rattle.signed_network.specs.declared.arcs.Arc.{Arc}
use Rattle.flow_worlds.specs.declared.steps.Step.{Step}
use Rattle.flow_worlds.specs.declared.task.Task.{Task}

-- what steps bring to a point
abbrev pub brought : List Arc → List Step → ℕ → ℤ
brought arcs steps point = sum_of (λ step. turn_of step *ℤ brings_to (arc_at arcs step.cell) point) steps

-- steps carry one from a point to another
abbrev pub Carries : List Arc → List Step → ℕ → ℕ → Type 0
Carries arcs steps from to = (point : ℕ) → brought arcs steps point ≡ at_point to point -ℤ at_point from point

-- the step at a place
abbrev pub step_at : List Step → ℕ → Step
step_at steps place = slice_index_or steps place (record { cell = 0; up = false; start = 0; end = 0 })

-- the step is one of the visits
abbrev pub IsVisited : List Visit → Step → Type 0
IsVisited visits step = (place : ℕ) × (place < length visits) × (visited visits place ≡ step)

-- the steps of visits go as the arcs of their cells
abbrev pub AreAlong : List Arc → List Visit → Type 0
AreAlong arcs visits = All (λ visit. visit.step ≡ step_of visit.step.cell (arc_at arcs visit.step.cell) visit.step.up) visits

-- the cell of a step can go so much further as the step goes
abbrev pub CanGo : List Cell → List ℤ → ℤ → Step → Type 0
CanGo cells moves by step = (cell : Cell) → slice_get cells step.cell ≡ Some cell
    → IsWithinBounds cell (pos 1) (number_at moves step.cell +ℤ by *ℤ turn_of step)

-- open steps over different cells, the asked one among them, that carry as much to each point as from it
pub record IsCircuit (task : Task) (moves : List ℤ) (steps : List Step) : Type 0 where
  pub open_steps : All (λ step. IsOpenStep task moves true step) steps
  pub apart : AllPairs (λ (one other : Step). one.cell ≢ other.cell) steps
  pub asked : (place : ℕ) × (place < length steps) × (step_at steps place ≡ task.asked)
  pub round : (point : ℕ) → brought task.arcs.now steps point ≡ pos 0
