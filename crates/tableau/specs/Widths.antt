-- Where the exchange of a step needs numbers that are too wide (own).
use Rattle.std.specs.Prelude.{◌≡◌, ℕ, ◌^◌, ◌≤◌, ◌==◌, Bool, true, nat_le, List, [], ◌∷◌, ◌++◌, length, slice_index, slice_index_or, ℤ, ◌-ℤ◌, ◌*ℤ◌, ◌<ℤ◌, unsigned_abs, if◌then◌else◌}
use Rattle.std.specs.List.{list_any}
use Rattle.tableau.specs.declared.problem.Problem.{Problem}
use Rattle.tableau.specs.Tables.{Table}
use Rattle.sdc_base.specs.Systems.{number_at}
use Rattle.tableau.specs.TableLaws.{value}
use Rattle.tableau.specs.Problems.{variable_count}
use Rattle.tableau.specs.RowLists.{Leaves}
use Rattle.tableau.specs.Steps.{Enters}

-- a number is wide that is 2^127 or more in size
abbrev pub is_wide : ℤ → Bool
is_wide number = nat_le (2 ^ 127) (unsigned_abs number)

-- the rows of a table, that of the objective as the last
abbrev pub all_rows : Table → List (List ℤ)
all_rows table = table.rows ++ table.objective ∷ []

-- The products that an exchange needs at a place j of the pivot's row: g is the number there, p the pivot's own.
abbrev pub products_in_pivot : ℤ → List ℤ → ℕ → ℕ → List ℤ
products_in_pivot den pivot column j =
    let p = number_at pivot column in
    let g = number_at pivot j in
    if j == column then (den *ℤ den) ∷ (den *ℤ p) ∷ [] else (g *ℤ den) ∷ []

-- The products that it needs at a place j of another row, and their difference: e is the number there, p the pivot's
-- own, f stands in the row of e and the column of p, and g in the row of p and the column of e.
abbrev pub products_outside : ℤ → List ℤ → List ℤ → ℕ → ℕ → List ℤ
products_outside den pivot own column j =
    let p = number_at pivot column in
    let f = number_at own column in
    let g = number_at pivot j in
    let e = number_at own j in
    if j == column then (f *ℤ den) ∷ [] else (e *ℤ p) ∷ (f *ℤ g) ∷ (e *ℤ p -ℤ f *ℤ g) ∷ []

-- the products that an exchange at a row and a column needs at the place j of the row k
abbrev pub products_at : Table → ℕ → ℕ → ℕ → ℕ → List ℤ
products_at table row column k j =
    let pivot = slice_index_or table.rows row [] in
    if k == row then products_in_pivot table.den pivot column j
    else products_outside table.den pivot (slice_index_or (all_rows table) k []) column j

-- the exchange is wide at a place
abbrev pub IsWideAt : Table → ℕ → ℕ → ℕ → ℕ → Type 0
IsWideAt table row column k j = list_any is_wide (products_at table row column k j) ≡ true

-- the same, of a place that there is: a row of a member or the objective's, and a place of another or the value's
abbrev pub IsWidePlace : Table → ℕ → ℕ → ℕ → ℕ → Type 0
IsWidePlace table row column k j =
    (k ≤ length table.members) × (j ≤ length table.others) × IsWideAt table row column k j

-- a row is named by its member, and a place in it by its column or slack; the objective's row and the values' column
-- have the number after the last slack
abbrev pub name_in : Problem → List ℕ → ℕ → ℕ
name_in problem names k = slice_index (names ++ variable_count problem ∷ []) k

-- the objective is below the target, and the exchange of the step from this table is wide at the place with these names
pub record IsWideStep (problem : Problem) (table : Table) (named_row named_column : ℕ) : Type 0 where
  pub below : value table <ℤ (table.den *ℤ problem.target)
  pub row : ℕ
  pub column : ℕ
  pub enters : Enters table column
  pub leaves : Leaves problem table row column
  pub wide_row : ℕ
  pub wide_column : ℕ
  pub row_within : wide_row ≤ length table.members
  pub column_within : wide_column ≤ length table.others
  pub row_name : named_row ≡ name_in problem table.members wide_row
  pub column_name : named_column ≡ name_in problem table.others wide_column
  pub is_wide : IsWideAt table row column wide_row wide_column
