-- Tables of a linear problem in whole numbers over one denominator, and their exchanges (own).
use Rattle.std.specs.Prelude.{◌≡◌, ℕ, ◌+◌, ◌<◌, List, [], ◌∷◌, ◌++◌, length, map, slice_index, slice_index_or, slice_set, ℤ, pos, neg_ℤ, ◌+ℤ◌, ◌-ℤ◌, ◌*ℤ◌, ◌≤ℤ◌}
use Rattle.sdc_base.specs.Systems.{number_at}

-- the sum of products, number by number
abbrev pub dot : List ℤ → List ℤ → ℤ
dot [] xs = pos 0
dot (a ∷ row) [] = pos 0
dot (a ∷ row) (x ∷ xs) = a *ℤ x +ℤ dot row xs

-- one number for each other column or slack, and the value as the last: the row says that den times its member is the
-- value less the row's numbers times the others
pub record Table : Type 0 where
  pub den : ℤ
  pub members : List ℕ
  pub others : List ℕ
  pub rows : List (List ℤ)
  pub objective : List ℤ

-- the number of a table's k-th row at a place
abbrev pub entry : Table → ℕ → ℕ → ℤ
entry table k place = number_at (slice_index_or table.rows k []) place

-- what stands under a row's numbers: the others' amounts, and less one for the value. All amounts are over one
-- denominator, `whole`
abbrev pub under_row : Table → (ℕ → ℤ) → ℤ → List ℤ
under_row table amounts whole = map amounts table.others ++ neg_ℤ whole ∷ []

-- a row has one number for each other, and the value
pub record HasShape (table : Table) : Type 0 where
  pub rows : length table.rows ≡ length table.members
  pub each : (k : ℕ) → k < length table.members → length (slice_index_or table.rows k []) ≡ length table.others + 1
  pub objective : length table.objective ≡ length table.others + 1

-- a row as a form: den times its member, with the row's numbers times what stands under them
abbrev pub row_form : ℤ → ℤ → List ℤ → List ℤ → ℤ
row_form den member row xs = den *ℤ member +ℤ dot row xs

-- a row is true of the amounts where its form is 0
abbrev pub RowHolds : ℤ → ℤ → List ℤ → List ℤ → Type 0
RowHolds den member row xs = row_form den member row xs ≡ pos 0

-- the form of a table's k-th row on amounts
abbrev pub form_at : Table → (ℕ → ℤ) → ℤ → ℕ → ℤ
form_at table amounts whole k =
    row_form table.den (amounts (slice_index table.members k)) (slice_index_or table.rows k [])
    (under_row table amounts whole)

-- the form of its objective's row
abbrev pub objective_form : Table → (ℕ → ℤ) → ℤ → ℤ → ℤ
objective_form table amounts objective whole =
    row_form table.den objective table.objective (under_row table amounts whole)

-- each row is true of the amounts, and the objective's row of the objective
pub record Holds (table : Table) (amounts : ℕ → ℤ) (objective whole : ℤ) : Type 0 where
  pub rows : (k : ℕ) → k < length table.members →
      RowHolds table.den (amounts (slice_index table.members k)) (slice_index_or table.rows k [])
      (under_row table amounts whole)
  pub objective_row : RowHolds table.den objective table.objective (under_row table amounts whole)

-- outside the pivot's row and column: e becomes e * p - f * g
abbrev pub crossed_numbers : ℤ → ℤ → List ℤ → List ℤ → List ℤ
crossed_numbers p f [] pivot = []
crossed_numbers p f (e ∷ row) [] = []
crossed_numbers p f (e ∷ row) (g ∷ pivot) = (e *ℤ p -ℤ f *ℤ g) ∷ crossed_numbers p f row pivot

-- a row other than the pivot's, before the division
abbrev pub exchanged_row : ℤ → List ℤ → ℕ → List ℤ → List ℤ
exchanged_row den pivot column row =
    slice_set (crossed_numbers (number_at pivot column) (number_at row column) row pivot) column
    (neg_ℤ (number_at row column *ℤ den))

-- the pivot's row, before the division
abbrev pub exchanged_pivot : ℤ → List ℤ → ℕ → List ℤ
exchanged_pivot den pivot column = slice_set (map (λ g. g *ℤ den) pivot) column (den *ℤ den)

-- the exchange at a row and a column, before the division
abbrev pub exchanged_table : Table → ℕ → ℕ → Table
exchanged_table table row column =
    let pivot = slice_index_or table.rows row [] in
    record {
      den = table.den *ℤ number_at pivot column;
      members = slice_set table.members row (slice_index table.others column);
      others = slice_set table.others column (slice_index table.members row);
      rows =
          slice_set (map (exchanged_row table.den pivot column) table.rows) row
          (exchanged_pivot table.den pivot column);
      objective = exchanged_row table.den pivot column table.objective;
    }

-- each number taken d times
abbrev pub times_row : ℤ → List ℤ → List ℤ
times_row d row = map (λ n. n *ℤ d) row

-- the table is another with each number divided by d
pub record IsQuotient (d : ℤ) (whole part : Table) : Type 0 where
  pub divisor : pos 1 ≤ℤ d
  pub den : part.den *ℤ d ≡ whole.den
  pub members : part.members ≡ whole.members
  pub others : part.others ≡ whole.others
  pub rows : map (times_row d) part.rows ≡ whole.rows
  pub objective : times_row d part.objective ≡ whole.objective
