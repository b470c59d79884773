-- What a line of an a priori file states, or its first fault by itself (own).
use Rattle.std.specs.Prelude.{ℕ, ◌==◌, ◌||◌, not, Bool, false, if◌then◌else◌, List, [], ◌∷◌, length, drop, slice_get, Option, None, Some, Result, Ok, Err, ℤ, pos, int_lt}
use Rattle.sdc_base.specs.Steps.{◌>>=◌, or_fault, refuse}
use Rattle.sdc_base.specs.Tokens.{number_in}
use Rattle.sdc_base.specs.Numbers.{read_units}
use Rattle.sdc_base.specs.declared.facts.Levels.{Levels}
use Rattle.sdc_base.specs.declared.number_fault.NumberFault.{NumberFault}
use Rattle.apriori.specs.declared.prior.Status.TheVariants.{Unsafe, Safe}
use Rattle.apriori.specs.declared.keyword.Keyword.{Keyword}
use Rattle.apriori.specs.declared.keyword.Keyword.TheVariants as keyword
use Rattle.apriori.specs.declared.statement.Bounds.{Bounds}
use Rattle.apriori.specs.declared.statement.Claim.{Claim}
use Rattle.apriori.specs.declared.statement.Claim.TheVariants as claim
use Rattle.apriori.specs.declared.statement.Statement.{Statement}
use Rattle.apriori.specs.declared.statement.Form.{Form}
use Rattle.apriori.specs.declared.faults.PriorWhy.{PriorWhy}
use Rattle.apriori.specs.declared.faults.PriorWhy.TheVariants.{BadShape, UnknownCode, BadNumber, EmptyUnsafe, OutsideTruth}
use Rattle.apriori.specs.Priors.{most_price, most_units}
use Rattle.apriori.specs.Fields.{fields}
use Rattle.apriori.specs.Keywords.{keyword_of, field_count}
use Rattle.apriori.specs.KnownCells.{Basis, KnownCell, cell_of, variables_of_table}

-- the keyword in front, and the fields behind it, which are as many as it has
unfoldable pub keyword_at : List (List ℕ) → Result (Keyword × List (List ℕ)) PriorWhy
keyword_at [] = Err BadShape
keyword_at (word ∷ further) = do
  keyword ← or_fault BadShape (keyword_of word)
  fits ← refuse BadShape (not (length further == field_count keyword))
  Ok (keyword, further)

-- a price is a whole number from 1 to the greatest
unfoldable pub price_at : List (List ℕ) → Result ℕ PriorWhy
price_at [] = Err BadNumber
price_at (field ∷ further) = or_fault BadNumber (number_in 1 most_price field)

-- the number of units that was read, where it is from the least one to the greatest, and else none
abbrev pub units_from : ℤ → Result ℤ NumberFault → Option ℤ
units_from least (Err fault) = None
units_from least (Ok units) = if int_lt units least || int_lt (pos most_units) units then None else Some units

-- a number of units from so many to the greatest, and the fields behind it
unfoldable pub units_at : ℤ → ℕ → List (List ℕ) → Result (ℤ × List (List ℕ)) PriorWhy
units_at least decimals [] = Err BadNumber
units_at least decimals (field ∷ further) = do
  units ← or_fault BadNumber (units_from least (read_units field decimals))
  Ok (units, further)

-- the levels that two fields state: the lower one, and the upper one from a unit on
unfoldable pub levels_at : ℕ → List (List ℕ) → Result Levels PriorWhy
levels_at decimals further = do
  down ← units_at (pos 0) decimals further
  up ← units_at (pos 1) decimals down.1
  Ok (record { up = up.0; down = down.0 })

-- the bounds that two fields state: the lower one, and the upper one
unfoldable pub bounds_at : ℕ → List (List ℕ) → Result Bounds PriorWhy
bounds_at decimals further = do
  low ← units_at (pos 0) decimals further
  high ← units_at (pos 0) decimals low.1
  Ok (record { low = low.0; high = high.0 })

-- what a keyword with the fields behind it claims
unfoldable pub claim_of : ℕ → Keyword → List (List ℕ) → Result Claim PriorWhy
claim_of decimals keyword.Unsafe further = Ok (claim.Declared Unsafe)
claim_of decimals keyword.Safe further = Ok (claim.Declared Safe)
claim_of decimals keyword.Shown further = Ok claim.Shown
claim_of decimals keyword.Price further = do
  price ← price_at further
  Ok (claim.Price price)
claim_of decimals keyword.Levels further = do
  levels ← levels_at decimals further
  Ok (claim.Open levels)
claim_of decimals keyword.Bounds further = do
  bounds ← bounds_at decimals further
  Ok (claim.Between bounds)

-- a cell without records is declared unsafe
abbrev pub is_empty_unsafe : KnownCell → Claim → Bool
is_empty_unsafe known (claim.Declared Unsafe) = known.freq == 0
is_empty_unsafe known other = false

-- the truth isn't between the bounds
abbrev pub is_outside : KnownCell → Claim → Bool
is_outside known (claim.Between bounds) = int_lt known.truth bounds.low || int_lt bounds.high known.truth
is_outside known other = false

-- nothing, unless the claim doesn't go with what is known of the cell
unfoldable pub fit_of_claim : KnownCell → Claim → Result (Unit {0}) PriorWhy
fit_of_claim known claim = do
  some ← refuse EmptyUnsafe (is_empty_unsafe known claim)
  refuse OutsideTruth (is_outside known claim)

-- the fields behind the codes of a line of table t
abbrev pub behind_codes : Basis → ℕ → List (List ℕ) → List (List ℕ)
behind_codes basis t all = drop (length (variables_of_table basis t)) all

-- What a line of this number states, or its first fault by itself: its shape, its codes, its numbers, and what is known
-- of the cell.
unfoldable pub statement_of : Basis → Form → ℕ → List ℕ → Result Statement PriorWhy
statement_of basis form line text = do
  spoken ← keyword_at (behind_codes basis form.table (fields form.separator text))
  cell ← or_fault UnknownCode (cell_of basis form.table (fields form.separator text))
  known ← or_fault UnknownCode (slice_get basis.known cell)
  claim ← claim_of form.decimals spoken.0 spoken.1
  fine ← fit_of_claim known claim
  Ok (record { line = line; cell = cell; claim = claim })
