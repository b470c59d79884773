-- The case of a task (own).
use Rattle.repair.specs.declared.task.Task.{Task}
use Rattle.repair.specs.HidingOrder.{Case, protected_case}

-- what a task is to protect
abbrev pub case_of : Task → Case
case_of task = protected_case task.system.now task.cells.now
