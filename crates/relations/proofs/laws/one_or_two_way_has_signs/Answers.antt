use Rattle.relations.proofs.SignedTables.{one_or_two_way_has_signs}
use Rattle.relations.proofs.laws.one_or_two_way_has_signs.Goals as goal

pub returns : goal.returns
returns c = one_or_two_way_has_signs
