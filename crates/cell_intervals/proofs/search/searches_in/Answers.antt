use Rattle.cell_intervals.proofs.Sizes.{in_small}
use Rattle.cell_intervals.proofs.search.searches_in.Goals as goal

pub returns : goal.returns
returns c =
    in_small c.args.system.now c.args.hidden.now.flags c.in_ok-grouping.grouping.of c.in_ok-grouping.grouping.sizes
    c.requires.ground.each_flag c.in_ok-grouping.ensures.components c.in_ok-grouping.ensures.small
