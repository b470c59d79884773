-- Amounts without their signs, and what cells cost.
use Rattle.std.proofs.Common.{◌≡◌, ℤ, pos, negsuc, neg_ℤ, ◌≤ℤ◌, ◌<ℤ◌, unsigned_abs, arith, refl}
use Rattle.std.proofs.lemmas.Int.{ints}
use Rattle.sdc_base.specs.RuleLevels.{figures_of_facts}
use Rattle.sdc_base.specs.declared.facts.CellFacts.{CellFacts}
use Rattle.cost_rule.specs.Costs.{cost_of}
use Rattle.cost_rule.specs.declared.kind.CostKind.{CostKind}
use Rattle.cost_rule.specs.declared.kind.CostKind.TheVariants as cost
use Rattle.cell_listing.specs.Columns.{cost_by}

pub size_below : (amount : ℤ) → amount <ℤ pos 0 → neg_ℤ amount ≡ pos (unsigned_abs amount)
size_below (pos n) below = absurd (omega (arith, ints, below))
size_below (negsuc n) below = refl

pub size_above : (amount : ℤ) → pos 0 ≤ℤ amount → amount ≡ pos (unsigned_abs amount)
size_above (pos n) above = refl
size_above (negsuc n) above = absurd (omega (arith, ints, above))

pub same_cost : (kind : CostKind) (facts : CellFacts) → cost_of kind facts ≡ cost_by kind (figures_of_facts facts)
same_cost cost.Value facts = refl
same_cost cost.Freq facts = refl
same_cost cost.One facts = refl
