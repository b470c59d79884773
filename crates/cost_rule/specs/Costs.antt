-- What it costs to hide a cell (own; costs by value, by frequency or all alike: tau-ARGUS user manual).
use Rattle.std.specs.Prelude.{◌≡◌, ℕ, ◌+◌, ◌≤◌, min, pos, ◌≤ℤ◌, Option, None, Some, unsigned_abs}
use Rattle.sdc_base.specs.declared.facts.CellFacts.{CellFacts}
use Rattle.cost_rule.specs.declared.kind.CostKind.{CostKind}
use Rattle.cost_rule.specs.declared.kind.CostKind.TheVariants as kind

-- the most of a truth that counts: a unit below 2 ^ 40
abbrev pub most_value : ℕ
most_value = 1099511627775

-- The cost of a cell with these facts: one more than the truth in units, as far as it counts (for a truth below 0,
-- which no cell has, than its amount); one more than the frequency; or one. Not: 0 for an empty cell.
abbrev pub cost_of : CostKind → CellFacts → ℕ
cost_of kind.Value facts = 1 + min (unsigned_abs facts.truth) most_value
cost_of kind.Freq facts = 1 + facts.freq
cost_of kind.One facts = 1

-- the facts that are asked about: a truth from 0, and at most 1,000,000 records
pub record AreCosted (facts : CellFacts) : Type 0 where
  pub truth : pos 0 ≤ℤ facts.truth
  pub freq : facts.freq ≤ 1000000

-- the price of a cell is its own, else the cost of its facts
abbrev pub price_of : CostKind → Option ℕ → CellFacts → ℕ
price_of cost None facts = cost_of cost facts
price_of cost (Some price) facts = price

-- f may be asked about all facts that are costed, and tells what they cost by this kind
pub record IsTold {F : Type 0} (may_ask : F → CellFacts → Type 0) (may_say : F → CellFacts → ℕ → Type 0) (f : F)
    (cost : CostKind) : Type 0 where
  pub may_be_asked : (facts : CellFacts) → AreCosted facts → may_ask f facts
  pub tells : (facts : CellFacts) (answer : ℕ) → AreCosted facts → may_say f facts answer → answer ≡ cost_of cost facts
