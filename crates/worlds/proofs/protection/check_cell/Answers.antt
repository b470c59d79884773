use Rattle.std.proofs.Common.{arith}
use Rattle.std.proofs.lemmas.Grind.{common_steps}
use Rattle.worlds.proofs.protection.check_cell.Goals as goal

pub returns-then-not-is_primary-clause-count : goal.returns-then-not-is_primary-clause-count
returns-then-not-is_primary-clause-count c = grind (arith, common_steps)

pub bounds-worlds-line : goal.bounds-worlds-line
bounds-worlds-line c = grind (arith, common_steps)

pub returns-in_err-check_line-clause-err : goal.returns-in_err-check_line-clause-err
returns-in_err-check_line-clause-err c = grind (arith, common_steps)

pub bounds-worlds-next : goal.bounds-worlds-next
bounds-worlds-next c = grind (arith, common_steps)

pub returns-in_err-check_line-2-clause-err : goal.returns-in_err-check_line-2-clause-err
returns-in_err-check_line-2-clause-err c = grind (arith, common_steps)

pub returns-clause-ok : goal.returns-clause-ok
returns-clause-ok c = grind (arith, common_steps)

pub returns-clause-count : goal.returns-clause-count
returns-clause-count c = grind (arith, common_steps)
