use Rattle.microdata.proofs.Within.{within_limits}
use Rattle.microdata.proofs.laws.read_is_within_limits.Goals as goal

pub returns : goal.returns
returns c = within_limits
