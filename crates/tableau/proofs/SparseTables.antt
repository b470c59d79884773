-- The rows of a table that is kept by entries.
use Rattle.std.proofs.Common.{◌≡◌, ℕ, ◌+◌, ◌<◌, ◌≤◌, List, [], ◌∷◌, length, take, slice_index_or, ℤ, pos, ◌*ℤ◌, ◌≤ℤ◌, unsigned_abs, arith, ap, sym, subst, ◌∙◌, length-take}
use Rattle.std.proofs.Math.IntN.{*ℤ_comm}
use Rattle.std.proofs.lemmas.List.{get_or-map, get_or-take, length-map, get_or_append_left, get_or_at}
use Rattle.sdc_base.specs.Forms.{Term, coefficient}
use Rattle.tableau.specs.declared.sparse_table.SparseTable.{SparseTable}
use Rattle.tableau.specs.Entries.{IsSparse}
use Rattle.tableau.specs.OwnRows.{own_den, row_over, IsOwnRow}
use Rattle.tableau.specs.SparseTables.{table_of, width_of, factor_at, column_of, IsSoundTable}
use Rattle.tableau.specs.Tables.{HasShape}
use Rattle.sdc_base.specs.Systems.{number_at}
use Rattle.tableau.specs.Widths.{all_rows}
use Rattle.tableau.proofs.OwnRows.{length-row_over, over_at, row_factor}
use Rattle.tableau.proofs.Independent.{by_less}

pub length-rows : (s : SparseTable) → length (take (length s.members.items) s.rows.items) ≡ length s.members.items
length-rows s = omega (arith, length-take (length s.members.items) s.rows.items, s.filled)

pub row_is : (s : SparseTable) (k : ℕ) → k < length s.members.items → slice_index_or (table_of s).rows k [] ≡ row_over s.den (width_of s) (slice_index_or s.rows.items k [])
row_is s k below =
    get_or-map (row_over s.den (width_of s)) (take (length s.members.items) s.rows.items) k [] [] (omega (arith, length-rows s)) ∙ ap (row_over s.den (width_of s)) (get_or-take (length s.members.items) s.rows.items k [] below)

-- every table that is kept is shaped
pub sparse_shaped : (s : SparseTable) → HasShape (table_of s)
sparse_shaped s =
    let width : ℕ = length s.others.items + 1 in
    record {
      rows = length-map (take (length s.members.items) s.rows.items) (row_over s.den width) ∙ length-rows s;
      each = λ k below. ap length (row_is s k below) ∙ length-row_over s.den width (slice_index_or s.rows.items k []);
      objective = length-row_over s.den width (slice_index_or s.rows.items (length s.members.items) []);
    }

pub row_number : (s : SparseTable) (k j : ℕ) → k < length s.members.items → j ≤ length s.others.items → coefficient (slice_index_or s.rows.items k []) j *ℤ factor_at s k ≡ number_at (slice_index_or (table_of s).rows k []) j
row_number s k j below within = sym (ap (λ (r : List ℤ). number_at r j) (row_is s k below) ∙ over_at s.den (width_of s) j (slice_index_or s.rows.items k []) (omega arith))

-- a row among all
pub all_row_is : (s : SparseTable) (k : ℕ) → k ≤ length s.members.items → slice_index_or (all_rows (table_of s)) k [] ≡ row_over s.den (width_of s) (slice_index_or s.rows.items k [])
all_row_is s k within =
    by_less k (length s.members.items)
    (λ less. get_or_append_left (table_of s).rows ((table_of s).objective ∷ []) [] k (omega (arith, (sparse_shaped s).rows)) ∙ row_is s k less)
    (λ more.
    let same : k ≡ length s.members.items = omega arith in
    get_or_at (table_of s).rows (table_of s).objective [] [] k (omega (arith, (sparse_shaped s).rows)) ∙ ap (λ n. row_over s.den (width_of s) (slice_index_or s.rows.items n [])) (sym same))

pub all_number : (s : SparseTable) (k j : ℕ) → k ≤ length s.members.items → j ≤ length s.others.items → coefficient (slice_index_or s.rows.items k []) j *ℤ factor_at s k ≡ number_at (slice_index_or (all_rows (table_of s)) k []) j
all_number s k j below within = sym (ap (λ (r : List ℤ). number_at r j) (all_row_is s k below) ∙ over_at s.den (width_of s) j (slice_index_or s.rows.items k []) (omega arith))

-- ---- the numbers of a column

pub column_at : (s : SparseTable) (column k : ℕ) → k ≤ length s.members.items → slice_index_or (column_of s column) k (pos 0) ≡ coefficient (slice_index_or s.rows.items k []) column
column_at s column k within = get_or-map (λ (entries : List Term). coefficient entries column) s.rows.items k [] (pos 0) (omega (arith, s.filled))

pub length-column : (s : SparseTable) (column : ℕ) → length (column_of s column) ≡ length s.members.items + 1
length-column s column = length-map s.rows.items (λ (entries : List Term). coefficient entries column) ∙ s.filled

-- ---- a table that is sound

pub own_row : (s : SparseTable) (k : ℕ) → IsSoundTable s → k ≤ length s.members.items → IsOwnRow (unsigned_abs s.den) (width_of s) (slice_index_or s.rows.items k [])
own_row s k sound within = sound.rows.each k (omega (arith, s.filled))

pub factor_up : (s : SparseTable) (k : ℕ) → IsSoundTable s → k ≤ length s.members.items → pos 1 ≤ℤ factor_at s k
factor_up s k sound within = (row_factor s.den (width_of s) (slice_index_or s.rows.items k []) sound.rows.above (own_row s k sound within)).1

pub factor_is : (s : SparseTable) (k : ℕ) → IsSoundTable s → k ≤ length s.members.items → own_den (width_of s) (slice_index_or s.rows.items k []) *ℤ factor_at s k ≡ s.den
factor_is s k sound within = *ℤ_comm (own_den (width_of s) (slice_index_or s.rows.items k [])) (factor_at s k) ∙ (row_factor s.den (width_of s) (slice_index_or s.rows.items k []) sound.rows.above (own_row s k sound within)).0

pub length-values_kept : (s : SparseTable) → IsSoundTable s → length s.values.items ≡ length s.members.items
length-values_kept s sound = ap length sound.values ∙ length-map (table_of s).rows (λ (row : List ℤ). number_at row (length s.others.items)) ∙ (sparse_shaped s).rows

pub value_kept : (s : SparseTable) (k : ℕ) → IsSoundTable s → k < length s.members.items → slice_index_or s.values.items k (pos 0) ≡ number_at (slice_index_or (table_of s).rows k []) (length s.others.items)
value_kept s k sound within = ap (λ (t : List ℤ). slice_index_or t k (pos 0)) sound.values ∙ get_or-map (λ (row : List ℤ). number_at row (length s.others.items)) (table_of s).rows k [] (pos 0) (omega (arith, (sparse_shaped s).rows))

pub length-objective_kept : (s : SparseTable) → IsSoundTable s → length s.objective.items ≡ length s.others.items + 1
length-objective_kept s sound = ap length sound.objective ∙ (sparse_shaped s).objective

pub den_up : (s : SparseTable) (k width : ℕ) (row : List Term) → IsSoundTable s → k ≤ length s.members.items → width ≡ width_of s → row ≡ slice_index_or s.rows.items k [] → pos 1 ≤ℤ own_den width row
den_up s k width row sound within width_is row_is = subst (λ (t : List Term). pos 1 ≤ℤ own_den width t) (sym row_is) (subst (λ n. pos 1 ≤ℤ own_den n (slice_index_or s.rows.items k [])) (sym width_is) (own_row s k sound within).above)

pub sparse_at : (n m : ℕ) (row : List Term) → n ≡ m → IsSparse 0 n row → IsSparse 0 m row
sparse_at n m row is sparse = subst (λ i. IsSparse 0 i row) is sparse
