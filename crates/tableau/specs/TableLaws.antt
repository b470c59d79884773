-- The value of a table, when it is the best, and what exchanges keep of it (simplex method; own).
use Rattle.std.specs.Prelude.{◌≡◌, ◌≢◌, ℕ, ◌<◌, length, ℤ, pos, ◌-ℤ◌, ◌*ℤ◌, ◌≤ℤ◌}
use Rattle.tableau.specs.Tables.{HasShape, Holds, IsQuotient, Table, entry, exchanged_table, form_at, objective_form}
use Rattle.sdc_base.specs.Systems.{number_at}

-- no number at a column or slack in the objective's row is below 0
abbrev pub CannotImprove : Table → Type 0
CannotImprove table = (k : ℕ) → k < length table.others → pos 0 ≤ℤ number_at table.objective k

-- the objective's value, over den
abbrev pub value : Table → ℤ
value table = number_at table.objective (length table.others)

-- amounts that a problem allows: none is below 0
abbrev pub AreAmounts : (ℕ → ℤ) → ℤ → Type 0
AreAmounts amounts whole = (pos 1 ≤ℤ whole) × ((v : ℕ) → pos 0 ≤ℤ amounts v)

-- where a table cannot be improved, no amounts of which it is true give more than its value
abbrev pub BlockedIsBest : Type 0
BlockedIsBest = (table : Table) → HasShape table → pos 1 ≤ℤ table.den → CannotImprove table →
    (amounts : ℕ → ℤ) (objective whole : ℤ) → AreAmounts amounts whole → Holds table amounts objective whole →
    (table.den *ℤ objective) ≤ℤ (value table *ℤ whole)

-- an exchange keeps the equations
abbrev pub ExchangeKeeps : Type 0
ExchangeKeeps = (table : Table) (row column : ℕ) → HasShape table → row < length table.members →
    column < length table.others → (amounts : ℕ → ℤ) (objective whole : ℤ) → Holds table amounts objective whole →
    Holds (exchanged_table table row column) amounts objective whole

-- and so does the division
abbrev pub DivisionKeeps : Type 0
DivisionKeeps = (d : ℤ) (table part : Table) → HasShape part → IsQuotient d table part →
    (amounts : ℕ → ℤ) (objective whole : ℤ) → Holds table amounts objective whole → Holds part amounts objective whole

-- an exchange is a row operation on the forms, whatever the amounts: the pivot's row is taken den times, each other p
-- times less its number in the pivot's column times the pivot's
pub record IsRowOperation (table after : Table) (row column : ℕ) (amounts : ℕ → ℤ) (objective whole : ℤ) : Type 0 where
  pub pivot_row : form_at after amounts whole row ≡ table.den *ℤ form_at table amounts whole row
  pub other_rows : (k : ℕ) → k < length table.members → k ≢ row →
      form_at after amounts whole k
      ≡ entry table row column *ℤ form_at table amounts whole k -ℤ entry table k column *ℤ form_at table amounts whole
      row
  pub objective_row : objective_form after amounts objective whole
      ≡ entry table row column *ℤ objective_form table amounts objective whole
      -ℤ number_at table.objective column *ℤ form_at table amounts whole row

abbrev pub ExchangeOperates : Type 0
ExchangeOperates = (table : Table) (row column : ℕ) → HasShape table → row < length table.members →
    column < length table.others → (amounts : ℕ → ℤ) (objective whole : ℤ) →
    IsRowOperation table (exchanged_table table row column) row column amounts objective whole

-- an exchange at a number above 0 takes nothing away: what the table after is true of, the table before was true of
abbrev pub ExchangeKeepsBack : Type 0
ExchangeKeepsBack = (table : Table) (row column : ℕ) → HasShape table → row < length table.members →
    column < length table.others → pos 1 ≤ℤ table.den → pos 1 ≤ℤ entry table row column →
    (amounts : ℕ → ℤ) (objective whole : ℤ) → Holds (exchanged_table table row column) amounts objective whole →
    Holds table amounts objective whole
