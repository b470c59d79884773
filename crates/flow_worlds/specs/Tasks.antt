-- What is asked of a network (network flows; own).
use Rattle.std.specs.Prelude.{◌≡◌, ◌+◌, ◌<◌, ◌^◌, true, length}
use Rattle.sdc_base.specs.Patterns.{IsPattern}
use Rattle.sdc_base.specs.HiddenSets.{is_hidden}
use Rattle.sdc_base.specs.Signs.{AreSigns}
use Rattle.signed_network.specs.Arcs.{AreArcsOf, arc_at}
use Rattle.signed_network.specs.Networks.{AreTouching}
use Rattle.flow_worlds.specs.Steps.{step_of}
use Rattle.flow_worlds.specs.declared.task.Task.{Task}

-- the network is that of the hidden cells of a system with signs, and the asked step is over one of them
pub record IsTask (task : Task) : Type 0 where
  pub ground : IsPattern task.system.now task.cells.now task.flags.now
  pub fewer_than_2_32 : task.system.now.cells < 2 ^ 32
  pub are_signs : AreSigns task.system.now.relations task.signs.now
  pub are_arcs : AreArcsOf task.system.now.relations task.signs.now task.system.now.cells task.arcs.now
  pub points : length task.touching.now ≡ length task.system.now.relations + 1
  pub touched : AreTouching task.flags.now task.arcs.now (length task.arcs.now) task.touching.now
  pub asked_hidden : is_hidden task.flags.now task.asked.cell ≡ true
  pub asked_along : task.asked ≡ step_of task.asked.cell (arc_at task.arcs.now task.asked.cell) task.asked.up
