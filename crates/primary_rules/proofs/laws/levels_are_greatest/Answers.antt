use Rattle.primary_rules.proofs.NamedCells.{levels_are_greatest}
use Rattle.primary_rules.proofs.laws.levels_are_greatest.Goals as goal

pub returns : goal.returns
returns c = levels_are_greatest
