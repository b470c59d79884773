use Rattle.microdata.proofs.FlatCodes.{flat-sound}
use Rattle.microdata.proofs.taking.take_flat_code.Goals as goal

pub returns-clause-seen : goal.returns-clause-seen
returns-clause-seen c = λ codes sound. flat-sound codes c.args.total.now c.args.seen.now c.add_flat_code.new.seen c.args.code.now c.in_default.ensures.none sound c.in_ok-add_flat_code.ensures.said
