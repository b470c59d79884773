use Rattle.cell_listing.proofs.LawsOfCells.{named_are_declared, unnamed_are_declared}
use Rattle.cell_listing.proofs.laws.reasons_are_true.Goals as goal

pub returns-clause-unnamed : goal.returns-clause-unnamed
returns-clause-unnamed c = unnamed_are_declared

pub returns-clause-named : goal.returns-clause-named
returns-clause-named c = named_are_declared
