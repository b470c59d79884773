use Rattle.certificate.proofs.OneExtraSpelling.{one_extra_spelling}
use Rattle.certificate.proofs.extra_reading.read_extra.Goals as goal

pub returns-clause-spelling : goal.returns-clause-spelling
returns-clause-spelling c = (one_extra_spelling c.args.bytes.now c.in_ok-extra.extra c.in_ok-extra.ensures).2

pub returns-clause-spellable : goal.returns-clause-spellable
returns-clause-spellable c = (one_extra_spelling c.args.bytes.now c.in_ok-extra.extra c.in_ok-extra.ensures).0

pub returns-clause-within : goal.returns-clause-within
returns-clause-within c = (one_extra_spelling c.args.bytes.now c.in_ok-extra.extra c.in_ok-extra.ensures).1
