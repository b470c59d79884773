use Rattle.plain_text.proofs.LeadingZeros.{zeros_passed}
use Rattle.plain_text.proofs.laws.leading_zeros.Goals as goal

pub returns : goal.returns
returns c = zeros_passed
