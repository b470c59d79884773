use Rattle.hierarchy.proofs.ListLaw.{list_gives_its_codes}
use Rattle.hierarchy.proofs.laws.list_gives_its_codes.Goals as goal

pub returns : goal.returns
returns c = list_gives_its_codes
