use Rattle.certificate.proofs.OneExtraSpelling.{one_extra_spelling}
use Rattle.certificate.proofs.laws.one_extra_spelling.Goals as goal

pub returns : goal.returns
returns c = one_extra_spelling
