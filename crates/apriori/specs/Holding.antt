-- Statements that go with what is known of their cells (own).
use Rattle.std.specs.Prelude.{◌≡◌, ◌≤◌, List, slice_get, Some, pos, ◌≤ℤ◌}
use Rattle.sdc_base.specs.declared.facts.CellFacts.{CellFacts}
use Rattle.linked_tables.specs.declared.mark.Mark.{Mark}
use Rattle.apriori.specs.declared.prior.Status.TheVariants.{Unsafe, Safe}
use Rattle.apriori.specs.declared.statement.Claim.{Claim}
use Rattle.apriori.specs.declared.statement.Claim.TheVariants as claim
use Rattle.apriori.specs.declared.statement.Statement.{Statement}
use Rattle.apriori.specs.Priors.{IsPrice, CanBeLevels, AreBounds, most_units}

-- a claim whose numbers are in their ranges
abbrev pub IsClaim : Claim → Type 0
IsClaim (claim.Declared status) = Unit {0}
IsClaim claim.Shown = Unit {0}
IsClaim (claim.Price price) = IsPrice price
IsClaim (claim.Open levels) = CanBeLevels levels
IsClaim (claim.Between bounds) = (pos 0 ≤ℤ bounds.low) × (bounds.high ≤ℤ pos most_units)

-- a claim that goes with these facts: a cell that is declared unsafe has records, and bounds have the truth between
-- them
abbrev pub IsClaimOf : CellFacts → Claim → Type 0
IsClaimOf facts (claim.Declared Unsafe) = 1 ≤ facts.freq
IsClaimOf facts (claim.Declared Safe) = Unit {0}
IsClaimOf facts claim.Shown = Unit {0}
IsClaimOf facts (claim.Price price) = IsPrice price
IsClaimOf facts (claim.Open levels) = CanBeLevels levels
IsClaimOf facts (claim.Between bounds) = AreBounds facts.truth (bounds.low, bounds.high)

-- a statement that goes with what is known of its cell
abbrev pub IsStatementOf : List Mark → Statement → Type 0
IsStatementOf marks said = (mark : Mark) → slice_get marks said.cell ≡ Some mark → IsClaimOf mark.facts said.claim
