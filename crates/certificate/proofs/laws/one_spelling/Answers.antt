use Rattle.certificate.proofs.OneSpelling.{one_spelling}
use Rattle.certificate.proofs.laws.one_spelling.Goals as goal

pub returns : goal.returns
returns c = one_spelling
