use Rattle.std.proofs.Common.{arith}
use Rattle.cert_check.proofs.rounded.check_values.Goals as goal

pub first_unrounded-requires-clause-fewer_than_2_32 : goal.first_unrounded-requires-clause-fewer_than_2_32
first_unrounded-requires-clause-fewer_than_2_32 c = omega (arith, c.requires.each_cell, c.args.system.now.below_2_32)
