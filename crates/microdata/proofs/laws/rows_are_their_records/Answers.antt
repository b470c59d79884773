use Rattle.microdata.proofs.RowsClosed.{rows_are_their_records}
use Rattle.microdata.proofs.laws.rows_are_their_records.Goals as goal

pub returns : goal.returns
returns c = rows_are_their_records
