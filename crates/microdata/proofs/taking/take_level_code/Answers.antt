use Rattle.std.proofs.Common.{arith}
use Rattle.code_trees.proofs.Among.{few-among}
use Rattle.microdata.proofs.LevelCodes.{level-sound}
use Rattle.microdata.proofs.taking.take_level_code.Goals as goal

pub overflow_cast-result : goal.overflow_cast-result
overflow_cast-result c =
    let few = few-among c.args.seen.now.codes c.args.seen.now.nodes c.len-count.ensures.distinct c.requires.sound.among in
    omega (arith, few, c.requires.sound.at_most_5000_nodes, c.in-Some.ensures.within)

pub overflow_cast-result-2 : goal.overflow_cast-result-2
overflow_cast-result-2 c =
    let few = few-among c.args.seen.now.codes c.args.seen.now.nodes c.len-count.ensures.distinct c.requires.sound.among in
    omega (arith, few, c.requires.sound.at_most_5000_nodes, c.len-count.ensures.len)

pub returns-clause-seen : goal.returns-clause-seen
returns-clause-seen c =
    level-sound c.args.widths.now c.args.total.now c.args.seen.now c.add_level_code.new.seen c.args.code.now c.in_default.ensures.none c.requires.sound c.in_ok-add_level_code.ensures.said
