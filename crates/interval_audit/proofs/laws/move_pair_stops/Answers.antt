use Rattle.interval_audit.proofs.MoveStops.{move_pair_stops}
use Rattle.interval_audit.proofs.laws.move_pair_stops.Goals as goal

pub returns : goal.returns
returns c = move_pair_stops
