-- Walks over cells from point to point, and circuits, which end where they begin (own).
use Rattle.std.specs.Prelude.{◌≡◌, ◌≢◌, ◌⊎◌, ℕ, ◌<◌, false, List, [], ◌∷◌, All, map, drop, length, slice_index_or, ℤ, pos, negsuc}
use Rattle.std.specs.List.{AllPairs}
use Rattle.sdc_base.specs.Forms.{Term}
use Rattle.sdc_base.specs.Systems.{number_at}
use Rattle.rounding.specs.Neighbours.{is_multiple}
use Rattle.rounding.specs.Rings.{room}
use Rattle.signed_network.specs.Arcs.{arc_at}
use Rattle.signed_network.specs.declared.arcs.Arc.{Arc}
use Rattle.rounding.specs.declared.steps.Step.{Step}

-- a step moves a cell that isn't a multiple up or down by one
pub record IsMove (base : ℤ) (numbers : List ℤ) (step : Step) : Type 0 where
  pub inside : step.cell < length numbers
  pub partly : is_multiple base (number_at numbers step.cell) ≡ false
  pub turned : (step.turn ≡ pos 1) ⊎ (step.turn ≡ negsuc 0)

-- steps that move cells that aren't multiples, none of them twice
pub record AreMoves (base : ℤ) (numbers : List ℤ) (steps : List Step) : Type 0 where
  pub each : All (IsMove base numbers) steps
  pub once : AllPairs (λ (one other : Step). one.cell ≢ other.cell) steps

-- a step along an arc, by which the cell's number goes up, or against it, by which it goes down
abbrev pub IsAlong : Arc → Step → Type 0
IsAlong arc step =
    ((step.turn ≡ pos 1) × (step.start ≡ arc.from) × (step.end ≡ arc.to))
    ⊎ ((step.turn ≡ negsuc 0) × (step.start ≡ arc.to) × (step.end ≡ arc.from))

-- each step starts where the one before it ends
abbrev pub IsChainOfSteps : ℕ → List Step → ℕ → Type 0
IsChainOfSteps from [] to = from ≡ to
IsChainOfSteps from (step ∷ steps) to = (step.start ≡ from) × IsChainOfSteps step.end steps to

-- a walk along arcs from one point to another
pub record IsWalk (arcs : List Arc) (from : ℕ) (steps : List Step) (to : ℕ) : Type 0 where
  pub along : All (λ step. (step.cell < length arcs) × IsAlong (arc_at arcs step.cell) step) steps
  pub chained : IsChainOfSteps from steps to

-- the step at a place
abbrev pub step_at : List Step → ℕ → Step
step_at steps place = slice_index_or steps place (record { cell = 0; turn = pos 0; start = 0; end = 0 })

-- the point at which it starts
abbrev pub start_at : List Step → ℕ → ℕ
start_at steps place = (step_at steps place).start

-- how far the cell of a step can go to its next multiple
abbrev pub room_of : ℤ → List ℤ → Step → ℤ
room_of base numbers step = room base (number_at numbers step.cell) step.turn

-- from a place on a walk goes round: it ends where it begins, and moves at least one cell
pub record GoesRound (arcs : List Arc) (base : ℤ) (numbers : List ℤ) (steps : List Step) (place : ℕ) : Type 0 where
  pub place_inside : place < length steps
  pub walked : IsWalk arcs (start_at steps place) (drop place steps) (start_at steps place)
  pub moved : AreMoves base numbers (drop place steps)

-- the turns of the steps
abbrev pub turns_of : List Step → List Term
turns_of steps = map (λ step. (step.cell, step.turn)) steps
