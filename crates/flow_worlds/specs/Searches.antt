-- Searches over open steps, from the end of a first step on (network flows; own).
use Rattle.std.specs.Prelude.{◌≡◌, ◌≢◌, ℕ, ◌<◌, ◌≤◌, Bool, true, false, List, All, length, slice_get, slice_index_or, ℤ}
use Rattle.std.specs.List.{AllPairs}
use Rattle.std.specs.Option.{option_map_or}
use Rattle.sdc_base.specs.declared.cell.Cell.{Cell}
use Rattle.sdc_base.specs.HiddenSets.{is_hidden}
use Rattle.sdc_base.specs.Systems.{number_at}
use Rattle.signed_network.specs.Arcs.{arc_at, is_same}
use Rattle.signed_network.specs.Networks.{Touches}
use Rattle.flow_worlds.specs.Rooms.{has_room}
use Rattle.flow_worlds.specs.Steps.{step_of, step_from}
use Rattle.flow_worlds.specs.declared.steps.Step.{Step}
use Rattle.flow_worlds.specs.declared.search.Visit.{Visit}
use Rattle.flow_worlds.specs.declared.search.Search.{Search}
use Rattle.flow_worlds.specs.declared.task.Task.{Task}

-- a step is open: its cell can move as the step goes, or, backward, the other way
abbrev pub is_open : Bool → List Cell → List ℤ → Step → Bool
is_open forward cells moves step = option_map_or
    (λ cell. has_room (is_same step.up forward) cell (number_at moves step.cell)) (slice_get cells step.cell) false

-- the point is reached, by a flag for each
abbrev pub is_reached : List Bool → ℕ → Bool
is_reached reached point = slice_index_or reached point false

-- the visit at a place
abbrev pub visit_at : List Visit → ℕ → Visit
visit_at visits place =
    slice_index_or visits place (record { step = record { cell = 0; up = false; start = 0; end = 0 }; before = 0 })

-- the step at a place
abbrev pub visited : List Visit → ℕ → Step
visited visits place = (visit_at visits place).step

-- the first step of a search
abbrev pub first_step : Search → Step
first_step search = visited search.visits.items 0

-- From a point on, over a hidden cell there other than the asked one, an open step reaches only points of the set.
abbrev pub StaysOver : Task → List ℤ → Bool → (ℕ → Bool) → ℕ → ℕ → Type 0
StaysOver task moves forward inside point cell =
    cell ≢ task.asked.cell → is_open forward task.cells.now moves (step_from point cell (arc_at task.arcs.now cell)) ≡ true
    → inside (step_from point cell (arc_at task.arcs.now cell)).end ≡ true

-- from a point on, open steps over hidden cells other than the asked one reach only points of the set
abbrev pub StaysAt : Task → List ℤ → Bool → (ℕ → Bool) → ℕ → Type 0
StaysAt task moves forward inside point =
    (cell : ℕ) → cell < length task.arcs.now → is_hidden task.flags.now cell ≡ true
    → Touches (arc_at task.arcs.now cell) point → StaysOver task moves forward inside point cell

-- a hidden cell whose arc touches the point
pub record IsHiddenCellAt (task : Task) (point cell : ℕ) : Type 0 where
  pub known : cell < length task.arcs.now
  pub hidden : is_hidden task.flags.now cell ≡ true
  pub touches : Touches (arc_at task.arcs.now cell) point

-- open steps over hidden cells other than the asked one don't leave the set
abbrev pub IsClosed : Task → List ℤ → Bool → (ℕ → Bool) → Type 0
IsClosed task moves forward inside = (point : ℕ) → inside point ≡ true → StaysAt task moves forward inside point

-- a step of a search: over a hidden cell, as its arc goes, and open
pub record IsOpenStep (task : Task) (moves : List ℤ) (forward : Bool) (step : Step) : Type 0 where
  pub known : step.cell < length task.arcs.now
  pub hidden : is_hidden task.flags.now step.cell ≡ true
  pub along : step ≡ step_of step.cell (arc_at task.arcs.now step.cell) step.up
  pub opened : is_open forward task.cells.now moves step ≡ true

-- steps over different cells, each but the first from where an earlier one ends
pub record AreVisits (visits : List Visit) : Type 0 where
  pub some : 0 < length visits
  pub apart : AllPairs (λ (one other : Visit). one.step.cell ≢ other.step.cell) visits
  pub back : (place : ℕ) → 0 < place → place < length visits
      → ((visit_at visits place).before < place)
      × ((visited visits place).start ≡ (visited visits (visit_at visits place).before).end)

-- A search: open steps over different cells, each but the first from where an earlier one ends, and the points where
-- they end, which lie in each closed set in which the search begins.
pub record IsSearch (task : Task) (moves : List ℤ) (forward : Bool) (first : Step) (visits : List Visit)
    (reached : List Bool) : Type 0 where
  pub points : length reached ≡ length task.touching.now
  pub are_visits : AreVisits visits
  pub begins : visited visits 0 ≡ first
  pub open_steps : All (λ visit. IsOpenStep task moves forward visit.step) visits
  pub met : (place : ℕ) → place < length visits → is_reached reached (visited visits place).end ≡ true
  pub only : (point : ℕ) → is_reached reached point ≡ true
      → (place : ℕ) × (place < length visits) × ((visited visits place).end ≡ point)
  pub least : (inside : ℕ → Bool) → IsClosed task moves forward inside → inside first.end ≡ true → (point : ℕ)
      → is_reached reached point ≡ true → inside point ≡ true

-- what a search found is such a search
abbrev pub IsSearchOf : Task → List ℤ → Bool → Step → Search → Type 0
IsSearchOf task moves forward first search =
    IsSearch task moves forward first search.visits.items search.reached.items

-- a search has reached all it can: open steps don't leave the points that it has reached
abbrev pub IsGone : Task → List ℤ → Bool → Search → Type 0
IsGone task moves forward search = IsClosed task moves forward (is_reached search.reached.items)

-- what a search has reached and gone stays
pub record Grows (before after : Search) : Type 0 where
  pub longer : length before.visits.items ≤ length after.visits.items
  pub same : (place : ℕ) → place < length before.visits.items
      → visit_at after.visits.items place ≡ visit_at before.visits.items place
  pub stays : (point : ℕ) → is_reached before.reached.items point ≡ true
      → is_reached after.reached.items point ≡ true
