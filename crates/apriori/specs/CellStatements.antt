-- What the statements about a cell say together (own).
use Rattle.std.specs.Prelude.{ℕ, ◌+◌, ◌==◌, ◌&&◌, not, Bool, true, false, List, [], ◌∷◌, filter, Option, None, Some, ℤ}
use Rattle.std.specs.Option.{option_or}
use Rattle.std.specs.Ordering.{int_eq}
use Rattle.sdc_base.specs.declared.facts.Levels.{Levels}
use Rattle.apriori.specs.declared.prior.Status.{Status}
use Rattle.apriori.specs.declared.prior.Status.TheVariants.{Unsafe, Safe}
use Rattle.apriori.specs.declared.prior.Prior.{Prior}
use Rattle.apriori.specs.declared.statement.Claim.{Claim}
use Rattle.apriori.specs.declared.statement.Claim.TheVariants as claim
use Rattle.apriori.specs.declared.statement.Statement.{Statement}
use Rattle.apriori.specs.Faults.{LineOf}

-- the status that a claim declares, where it does
abbrev pub status_in : Claim → Option Status
status_in (claim.Declared status) = Some status
status_in other = None

-- the line of a table's file by which the cell is to be always shown, where it is that
abbrev pub line_in : ℕ → ℕ → Claim → Option LineOf
line_in table line claim.Shown = Some (table, line)
line_in table line other = None

-- the price that a claim states, where it does
abbrev pub price_in : Claim → Option ℕ
price_in (claim.Price price) = Some price
price_in other = None

-- the levels that a claim states, where it does
abbrev pub levels_in : Claim → Option Levels
levels_in (claim.Open levels) = Some levels
levels_in other = None

-- the bounds that a claim states, where it does
abbrev pub bounds_in : Claim → Option (ℤ × ℤ)
bounds_in (claim.Between bounds) = Some (bounds.low, bounds.high)
bounds_in other = None

-- what the first of the statements that say anything of this kind says
abbrev pub first_said : {X : Type 0} → (Statement → Option X) → List Statement → Option X
first_said what [] = None
first_said what (said ∷ statements) = option_or (what said) (first_said what statements)

-- the statements about a cell
abbrev pub statements_about : ℕ → List Statement → List Statement
statements_about cell statements = filter (λ said. said.cell == cell) statements

-- What an earlier prior of a cell and the statements about it in a table's file say together: of each kind the first
-- that is said. Not: the last.
abbrev pub prior_with : ℕ → Prior → List Statement → Prior
prior_with table prior statements = record {
  status = option_or prior.status (first_said (λ said. status_in said.claim) statements);
  keep = option_or prior.keep (first_said (λ said. line_in table said.line said.claim) statements);
  price = option_or prior.price (first_said (λ said. price_in said.claim) statements);
  levels = option_or prior.levels (first_said (λ said. levels_in said.claim) statements);
  bounds = option_or prior.bounds (first_said (λ said. bounds_in said.claim) statements);
}

-- the priors of the cells from a number on, each with the statements about its cell
abbrev pub priors_from : ℕ → ℕ → List Prior → List Statement → List Prior
priors_from table cell [] statements = []
priors_from table cell (prior ∷ priors) statements = prior_with table prior (statements_about cell statements)
    ∷ priors_from table (cell + 1) priors statements

-- the other status is declared already
abbrev pub is_other_status : Option Status → Status → Bool
is_other_status (Some Unsafe) Safe = true
is_other_status (Some Safe) Unsafe = true
is_other_status earlier status = false

-- another price is stated already
abbrev pub is_other_price : Option ℕ → ℕ → Bool
is_other_price None price = false
is_other_price (Some earlier) price = not (earlier == price)

-- other levels are stated already
abbrev pub are_other_levels : Option Levels → Levels → Bool
are_other_levels None levels = false
are_other_levels (Some earlier) levels = not (int_eq earlier.up levels.up && int_eq earlier.down levels.down)

-- other bounds are stated already
abbrev pub are_other_bounds : Option (ℤ × ℤ) → ℤ × ℤ → Bool
are_other_bounds None bounds = false
are_other_bounds (Some earlier) bounds = not (int_eq earlier.0 bounds.0 && int_eq earlier.1 bounds.1)

-- A claim contradicts what is said of its cell: the other status, or other numbers for the same keyword.
abbrev pub contradicts : Prior → Claim → Bool
contradicts prior (claim.Declared status) = is_other_status prior.status status
contradicts prior claim.Shown = false
contradicts prior (claim.Price price) = is_other_price prior.price price
contradicts prior (claim.Open levels) = are_other_levels prior.levels levels
contradicts prior (claim.Between bounds) = are_other_bounds prior.bounds (bounds.low, bounds.high)
