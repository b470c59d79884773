use Rattle.rounding_audit.proofs.Primaries as primaries
use Rattle.rounding_audit.proofs.laws.size_is_large.Goals as goal

pub returns : goal.returns
returns c = primaries.size_is_large
