-- What is found next for a flow: a circuit to go round, or a cut (network flows).
use Rattle.std.specs.Prelude.{List, ℤ}
use Rattle.flow_worlds.specs.Circuits.{IsCircuit}
use Rattle.flow_worlds.specs.Cuts.{IsCut}
use Rattle.flow_worlds.specs.declared.flows.Found.{Found}
use Rattle.flow_worlds.specs.declared.flows.Found.TheVariants.{Circuit, Cut}
use Rattle.flow_worlds.specs.declared.task.Task.{Task}

-- the steps are a circuit, or the multipliers a cut
abbrev pub IsFound : Task → List ℤ → Found → Type 0
IsFound task moves (Circuit steps) = IsCircuit task moves steps.items
IsFound task moves (Cut multipliers) = IsCut task moves multipliers
