use Rattle.linked_tables.proofs.Sharing.{apart_share_total}
use Rattle.linked_tables.proofs.laws.tables_apart_share_the_total.Goals as goal

pub returns : goal.returns
returns c = apart_share_total
