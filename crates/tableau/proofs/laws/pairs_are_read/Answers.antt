use Rattle.tableau.proofs.OptimalPairs.{pair_is_read, pair_is_not_reached, pair_ends, table_gives_pair}
use Rattle.tableau.proofs.PartPairs.{pair_in_is_read, pair_in_is_not_reached, pair_in_ends, table_gives_pair_in}
use Rattle.tableau.proofs.laws.pairs_are_read.Goals as goal

pub returns-clause-read : goal.returns-clause-read
returns-clause-read c = pair_is_read

pub returns-clause-not_reached : goal.returns-clause-not_reached
returns-clause-not_reached c = pair_is_not_reached

pub returns-clause-ends : goal.returns-clause-ends
returns-clause-ends c = pair_ends

pub returns-clause-read_in : goal.returns-clause-read_in
returns-clause-read_in c = pair_in_is_read

pub returns-clause-not_reached_in : goal.returns-clause-not_reached_in
returns-clause-not_reached_in c = pair_in_is_not_reached

pub returns-clause-ends_in : goal.returns-clause-ends_in
returns-clause-ends_in c = pair_in_ends

pub returns-clause-table : goal.returns-clause-table
returns-clause-table c = table_gives_pair

pub returns-clause-table_in : goal.returns-clause-table_in
returns-clause-table_in c = table_gives_pair_in
