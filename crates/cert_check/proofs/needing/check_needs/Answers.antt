use Rattle.std.proofs.Common.{arith}
use Rattle.cert_check.proofs.needing.check_needs.Goals as goal

pub subjects_of-requires-clause-fewer_than_2_32 : goal.subjects_of-requires-clause-fewer_than_2_32
subjects_of-requires-clause-fewer_than_2_32 c = omega (arith, c.requires.ground.each_cell, c.args.case.now.system.now.below_2_32)
