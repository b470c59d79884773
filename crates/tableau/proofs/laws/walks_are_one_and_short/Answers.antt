use Rattle.tableau.proofs.Beginnings.{start_is_kept}
use Rattle.tableau.proofs.Steps.{step_keeps}
use Rattle.tableau.proofs.WalkTables.{walk_keeps, walks_are_short}
use Rattle.tableau.proofs.SomeStep.{step_exists}
use Rattle.tableau.proofs.SomeEnd.{end_exists}
use Rattle.tableau.proofs.OneStep.{step_is_one, walk_is_one, end_is_one}
use Rattle.tableau.proofs.Counts.{chains_are_short}
use Rattle.tableau.proofs.laws.walks_are_one_and_short.Goals as goal

pub returns-clause-begins : goal.returns-clause-begins
returns-clause-begins c = start_is_kept

pub returns-clause-step : goal.returns-clause-step
returns-clause-step c = step_keeps

pub returns-clause-walk : goal.returns-clause-walk
returns-clause-walk c = walk_keeps

pub returns-clause-some_step : goal.returns-clause-some_step
returns-clause-some_step c = step_exists

pub returns-clause-one_step : goal.returns-clause-one_step
returns-clause-one_step c = step_is_one

pub returns-clause-one_walk : goal.returns-clause-one_walk
returns-clause-one_walk c = walk_is_one

pub returns-clause-one_end : goal.returns-clause-one_end
returns-clause-one_end c = end_is_one

pub returns-clause-chains : goal.returns-clause-chains
returns-clause-chains c = chains_are_short

pub returns-clause-short : goal.returns-clause-short
returns-clause-short c = walks_are_short

pub returns-clause-some_end : goal.returns-clause-some_end
returns-clause-some_end c = end_exists
