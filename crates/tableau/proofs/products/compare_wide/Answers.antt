use Rattle.std.proofs.Common.{arith, rules}
use Rattle.std.proofs.lemmas.Grind.{common_steps}
use Rattle.tableau.proofs.products.compare_wide.Goals as goal

pub returns-then-other-lt0-clause-greater : goal.returns-then-other-lt0-clause-greater
returns-then-other-lt0-clause-greater c = grind (arith, common_steps)

pub returns-then-other-lt0-clause-less : goal.returns-then-other-lt0-clause-less
returns-then-other-lt0-clause-less c = search rules

pub returns-clause-less : goal.returns-clause-less
returns-clause-less c = search rules

pub returns-clause-equal : goal.returns-clause-equal
returns-clause-equal c = search rules

pub returns-clause-greater : goal.returns-clause-greater
returns-clause-greater c = search rules
