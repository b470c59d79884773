use Rattle.relations.proofs.SignedTables.{one_variable_has_signs}
use Rattle.relations.proofs.laws.one_variable_has_signs.Goals as goal

pub returns : goal.returns
returns c = one_variable_has_signs
