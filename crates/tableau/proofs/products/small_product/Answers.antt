use Rattle.std.proofs.Common.{arith}
use Rattle.std.proofs.lemmas.Grind.{common_steps}
use Rattle.tableau.proofs.products.small_product.Goals as goal

pub returns-clause-product : goal.returns-clause-product
returns-clause-product c = grind (arith, common_steps)

pub returns-clause-above : goal.returns-clause-above
returns-clause-above c = grind (arith, common_steps)
