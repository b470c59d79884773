use Rattle.std.proofs.Common.{arith}
use Rattle.code_trees.proofs.Among.{seen-few}
use Rattle.code_trees.proofs.level_form.next_number.Goals as goal

pub overflow_cast-result : goal.overflow_cast-result
overflow_cast-result c = omega (arith, c.len.ensures.len, seen-few c.args.seen.now c.args.kept.now c.len.ensures.distinct c.requires.among c.requires.at_most_5000)

pub overflow_add-result : goal.overflow_add-result
overflow_add-result c = omega (arith, c.len.ensures.len, seen-few c.args.seen.now c.args.kept.now c.len.ensures.distinct c.requires.among c.requires.at_most_5000)
