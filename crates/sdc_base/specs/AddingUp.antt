-- Tables add up: a total is the sum of its parts (handbook, magnitude tables).
use Rattle.std.specs.Prelude.{◌≡◌, ◌≢◌, ℕ, ◌<◌, List, [], length, slice_index, slice_index_or, slice_set, All}
use Rattle.sdc_base.specs.Trees.{Tree, IsCodeTree, children}
use Rattle.sdc_base.specs.Records.{Name}
use Rattle.sdc_base.specs.Sums.{truth}
use Rattle.sdc_base.specs.Totals.{sum_of}
use Rattle.sdc_base.specs.declared.rows.Row.{Row}

-- a record of these trees: a code for each
pub record IsCoded (trees : List Tree) (row : Row) : Type 0 where
  pub coded : length row.codes ≡ length trees
  pub inside : (variable : ℕ) → variable < length trees
      → slice_index row.codes variable < length (slice_index_or trees variable [])

-- Where no record's code for a variable has children, the truth of a cell whose code for it has some is the sum of
-- the truths of the cells that have one of these children in its place.
abbrev pub TablesAddUp : Type 0
TablesAddUp =
    (trees : List Tree) (rows : List Row) (name : Name) (variable : ℕ) → All IsCodeTree trees → All (IsCoded trees) rows
    → length name ≡ length trees → variable < length trees
    → All (λ row. children (slice_index_or trees variable []) (slice_index row.codes variable) ≡ []) rows
    → children (slice_index_or trees variable []) (slice_index name variable) ≢ []
    → truth trees name rows ≡ sum_of (λ child. truth trees (slice_set name variable child) rows)
    (children (slice_index_or trees variable []) (slice_index name variable))
