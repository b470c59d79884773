use Rattle.relations.proofs.SignedTables.{two_flat_variables_have_signs}
use Rattle.relations.proofs.laws.two_flat_variables_have_signs.Goals as goal

pub returns : goal.returns
returns c = two_flat_variables_have_signs
