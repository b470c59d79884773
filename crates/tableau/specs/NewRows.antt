-- What becomes of the rows of a table in an exchange: a list of entries that is made anew, or the list as it was (own).
use Rattle.std.specs.Prelude.{◌≡◌, ℕ, ◌+◌, ◌<◌, List, [], length, map, take, slice_index_or, Option, Some, None, ℤ, pos, ◌*ℤ◌, ◌≤ℤ◌, unsigned_abs}
use Rattle.std.specs.List.{range_with_len}
use Rattle.sdc_base.specs.Forms.{Term, coefficient}
use Rattle.tableau.specs.Tables.{exchanged_table}
use Rattle.sdc_base.specs.Systems.{number_at}
use Rattle.tableau.specs.Widths.{all_rows}
use Rattle.tableau.specs.Entries.{IsSparse}
use Rattle.tableau.specs.OwnRows.{own_den, row_over, IsOwnRow, IsLowest, IsDenOf}
use Rattle.tableau.specs.SparseTables.{table_of, width_of}
use Rattle.tableau.specs.declared.sparse_table.SparseTable.{SparseTable}

-- a row's list after the exchange: the one that is made, or where none is, the old one as it was
abbrev pub placed_list : List Term → Option (List Term) → List Term
placed_list own None = own
placed_list own (Some made) = made

-- the lists of all rows after the exchange
abbrev pub placed_lists : List (List Term) → List (Option (List Term)) → List (List Term)
placed_lists olds news =
    map (λ k. placed_list (slice_index_or olds k []) (slice_index_or news k None)) (range_with_len 0 (length news))

-- the den of a table after an exchange, before the division
abbrev pub exchanged_den : SparseTable → ℕ → ℕ → ℤ
exchanged_den table row column = (exchanged_table (table_of table) row column).den

-- the number of the k-th row of a table after an exchange, before the division
abbrev pub exchanged_number : SparseTable → ℕ → ℕ → ℕ → ℕ → ℤ
exchanged_number table row column k j =
    number_at (slice_index_or (all_rows (exchanged_table (table_of table) row column)) k []) j

-- the pivot's row without its own den, that den, and the number at which the table is exchanged, which is above 0
pub record IsPivot (table : SparseTable) (row column : ℕ) (bare : List Term) (den p : ℤ) : Type 0 where
  pub sparse : IsSparse 0 (width_of table) bare
  pub same : (v : ℕ) → v < width_of table → coefficient bare v ≡ coefficient (slice_index_or table.rows.items row []) v
  pub den_is : den ≡ own_den (width_of table) (slice_index_or table.rows.items row [])
  pub number_is : p ≡ coefficient (slice_index_or table.rows.items row []) column
  pub above : pos 1 ≤ℤ p

-- a list is the k-th row of the table after an exchange, over a den of its own
pub record IsNewRow (table : SparseTable) (row column k : ℕ) (entries : List Term) : Type 0 where
  pub sparse : IsSparse 0 (width_of table + 1) entries
  pub own : IsOwnRow (unsigned_abs (exchanged_den table row column)) (width_of table) entries
  pub stands : (v : ℕ) → v < width_of table → coefficient entries v *ℤ exchanged_den table row column
      ≡ exchanged_number table row column k v *ℤ own_den (width_of table) entries

-- so many lists are the first rows of the table after an exchange
abbrev pub AreNewRows : SparseTable → ℕ → ℕ → List (List Term) → Type 0
AreNewRows table row column lists =
    (k : ℕ) → k < length lists → IsNewRow table row column k (slice_index_or lists k [])

-- a row is another with its den and all its numbers divided by the greatest number that divides them
pub record IsLowestOf (width : ℕ) (whole row : List Term) : Type 0 where
  pub by : ℤ
  pub above : pos 1 ≤ℤ by
  pub times : (v : ℕ) → coefficient row v *ℤ by ≡ coefficient whole v
  pub sparse : IsSparse 0 (width + 1) row
  pub den_above : pos 1 ≤ℤ own_den width row
  pub lowest : IsLowest row

-- lists are made or kept so that they are the rows of the exchanged table divided by its divisor, and den, values and the
-- objective's numbers are that table's
pub record AreExchanged (table : SparseTable) (row column : ℕ) (den : ℤ) (news : List (Option (List Term)))
    (values objective : List ℤ) : Type 0 where
  pub long : length news ≡ length table.rows.items
  pub rows : AreNewRows table row column (placed_lists table.rows.items news)
  pub den_is : IsDenOf (width_of table) (placed_lists table.rows.items news) den
  pub values_are : values ≡ map (λ row. number_at row (length table.others.items))
      (map (row_over den (width_of table)) (take (length table.members.items) (placed_lists table.rows.items news)))
  pub objective_is : objective ≡ row_over den (width_of table)
      (slice_index_or (placed_lists table.rows.items news) (length table.members.items) [])
