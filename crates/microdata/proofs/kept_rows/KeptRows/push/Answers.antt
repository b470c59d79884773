use Rattle.microdata.proofs.RowsPlaced.{kept_more}
use Rattle.microdata.proofs.kept_rows.KeptRows.push.Goals as goal

pub returns-in-Ok : goal.returns-in-Ok
returns-in-Ok c = rw (← c.self.view_is, c.in_ok-push.ensures.items, c.in-Ok.ensures.items) (kept_more c.self.inside.numbers.items c.self.inside.rows.items c.args.number c.args.row c.self.invariant)
