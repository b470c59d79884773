use Rattle.modular_plan.proofs.WholeSteps.{steps_are_whole}
use Rattle.modular_plan.proofs.laws.steps_are_whole.Goals as goal

pub returns : goal.returns
returns c = steps_are_whole
