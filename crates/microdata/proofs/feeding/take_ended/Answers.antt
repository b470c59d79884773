use Rattle.microdata.proofs.Cuts.{ended-says, ended-stops}
use Rattle.microdata.proofs.feeding.take_ended.Goals as goal

pub returns-clause-says : goal.returns-clause-says
returns-clause-says c =
    ended-says c.args.measures.now c.args.so_far.now c.take_line.new.so_far c.args.line.now c.without_return.result.now c.take_line.result c.requires.plain c.without_return.ensures.text c.take_line.ensures.said

pub returns-clause-stops : goal.returns-clause-stops
returns-clause-stops c =
    ended-stops c.args.measures.now c.args.so_far.now c.take_line.new.so_far c.args.line.now c.without_return.result.now c.take_line.result c.requires.plain c.without_return.ensures.text c.take_line.ensures.said
