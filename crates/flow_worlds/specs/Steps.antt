-- Steps over cells from point to point (network flows; own).
use Rattle.std.specs.Prelude.{ℕ, ◌==◌, Bool, true, false, List, map, ℤ, pos}
use Rattle.sdc_base.specs.declared.side.Side.{Side}
use Rattle.sdc_base.specs.declared.side.Side.TheVariants.{Above, Below}
use Rattle.sdc_base.specs.Forms.{Term}
use Rattle.sdc_base.specs.Signs.{number_with_sign}
use Rattle.signed_network.specs.declared.arcs.Arc.{Arc}
use Rattle.flow_worlds.specs.declared.steps.Step.{Step}

-- the step over a cell: up along its arc, or down against it
abbrev pub step_of : ℕ → Arc → Bool → Step
step_of cell arc true = record { cell = cell; up = true; start = arc.from; end = arc.to }
step_of cell arc false = record { cell = cell; up = false; start = arc.to; end = arc.from }

-- the step over a cell from a point that its arc touches
abbrev pub step_from : ℕ → ℕ → Arc → Step
step_from point cell arc = step_of cell arc (arc.from == point)

-- a cell that moves to a side goes up
abbrev pub is_up : Side → Bool
is_up Above = true
is_up Below = false

-- 1 for a step up, -1 for one down
abbrev pub turn_of : Step → ℤ
turn_of step = number_with_sign step.up (pos 1)

-- the turns of the cells of steps
abbrev pub turns_of : List Step → List Term
turns_of steps = map (λ step. (step.cell, turn_of step)) steps
