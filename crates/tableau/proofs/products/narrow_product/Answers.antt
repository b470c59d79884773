use Rattle.std.proofs.Common.{rules}
use Rattle.tableau.proofs.products.narrow_product.Goals as goal

pub returns-in_default-checked_mul-clause-none : goal.returns-in_default-checked_mul-clause-none
returns-in_default-checked_mul-clause-none c = search rules

pub returns-then-product-clause-none : goal.returns-then-product-clause-none
returns-then-product-clause-none c = search rules
