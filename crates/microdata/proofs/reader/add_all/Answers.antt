use Rattle.microdata.proofs.SeenFirst.{next-new}
use Rattle.microdata.proofs.reader.add_all.Goals as goal

pub push-requires : goal.push-requires
push-requires c = rw (c.as_slice.ensures, c.listed.invariant) (next-new c.args.listed.now c.listed.code-index c.code-item.result c.requires.distinct c.listed-test.true c.code-item.is)
