-- What is kept of each record with a response until the last one is read (own).
use Rattle.std.specs.Prelude.{ℕ, List, [], ◌∷◌, ℤ}
use Rattle.sdc_base.specs.declared.rows.Row.{Row}

-- what is kept of a record: its number from 1, where its codes stand among those of each variable, its value in units,
-- and its weight in steps
pub record KeptRow : Type 0 where
  pub number : ℕ
  pub places : List ℕ
  pub value : ℤ
  pub weight : ℕ

-- what is kept of the record with this number, by its row, whose codes are not yet places in the trees
abbrev pub kept_of : ℕ → Row → KeptRow
kept_of number row = record { number = number; places = row.codes; value = row.value; weight = row.weight }

-- what is kept of each record, by its number and its row, which stand at the same place
abbrev pub kept_rows : List ℕ → List Row → List KeptRow
kept_rows [] rows = []
kept_rows (number ∷ numbers) [] = []
kept_rows (number ∷ numbers) (row ∷ rows) = kept_of number row ∷ kept_rows numbers rows
