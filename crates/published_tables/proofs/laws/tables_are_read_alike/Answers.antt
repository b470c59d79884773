use Rattle.published_tables.proofs.ReadingAlike.{flags_alike, values_alike}
use Rattle.published_tables.proofs.laws.tables_are_read_alike.Goals as goal

pub returns-clause-hidden : goal.returns-clause-hidden
returns-clause-hidden c = flags_alike

pub returns-clause-rounded : goal.returns-clause-rounded
returns-clause-rounded c = values_alike
