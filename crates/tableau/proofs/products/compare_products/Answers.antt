use Rattle.std.proofs.Common.{rules}
use Rattle.tableau.proofs.products.compare_products.Goals as goal

pub returns-in_default-clause-less : goal.returns-in_default-clause-less
returns-in_default-clause-less c = search rules

pub returns-in_default-clause-equal : goal.returns-in_default-clause-equal
returns-in_default-clause-equal c = search rules

pub returns-in_default-clause-greater : goal.returns-in_default-clause-greater
returns-in_default-clause-greater c = search rules

pub returns-in_default-narrow_product-clause-less : goal.returns-in_default-narrow_product-clause-less
returns-in_default-narrow_product-clause-less c = search rules

pub returns-in_default-narrow_product-clause-equal : goal.returns-in_default-narrow_product-clause-equal
returns-in_default-narrow_product-clause-equal c = search rules

pub returns-in_default-narrow_product-clause-greater : goal.returns-in_default-narrow_product-clause-greater
returns-in_default-narrow_product-clause-greater c = search rules

pub returns-then-product-other_product-clause-less : goal.returns-then-product-other_product-clause-less
returns-then-product-other_product-clause-less c = search rules

pub returns-then-product-other_product-clause-equal : goal.returns-then-product-other_product-clause-equal
returns-then-product-other_product-clause-equal c = search rules

pub returns-then-product-other_product-clause-greater : goal.returns-then-product-other_product-clause-greater
returns-then-product-other_product-clause-greater c = search rules

pub returns-then-other_product-product-clause-less : goal.returns-then-other_product-product-clause-less
returns-then-other_product-product-clause-less c = search rules

pub returns-then-other_product-product-clause-equal : goal.returns-then-other_product-product-clause-equal
returns-then-other_product-product-clause-equal c = search rules

pub returns-then-other_product-product-clause-greater : goal.returns-then-other_product-product-clause-greater
returns-then-other_product-product-clause-greater c = search rules

pub returns-clause-less : goal.returns-clause-less
returns-clause-less c = search rules

pub returns-clause-equal : goal.returns-clause-equal
returns-clause-equal c = search rules

pub returns-clause-greater : goal.returns-clause-greater
returns-clause-greater c = search rules
