use Rattle.tableau.proofs.OneObjective.{blocked_is_one, blocked_any_table, blocked_any_chain, blocked_is_not_reached}
use Rattle.tableau.proofs.laws.blocked_tables_are_one.Goals as goal

pub returns-clause-objective : goal.returns-clause-objective
returns-clause-objective c = blocked_is_one

pub returns-clause-any_table : goal.returns-clause-any_table
returns-clause-any_table c = blocked_any_table

pub returns-clause-any_chain : goal.returns-clause-any_chain
returns-clause-any_chain c = blocked_any_chain

pub returns-clause-not_reached : goal.returns-clause-not_reached
returns-clause-not_reached c = blocked_is_not_reached
