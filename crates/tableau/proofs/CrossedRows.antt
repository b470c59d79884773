-- The rows of an exchanged table, number by number and row by row.
use Rattle.std.proofs.Common.{◌≡◌, ◌≢◌, ◌==◌, true, false, ℕ, ◌+◌, ◌<◌, ◌≤◌, List, [], ◌∷◌, length, map, slice_index_or, set, ℤ, pos, neg_ℤ, ◌-ℤ◌, ◌*ℤ◌, arith, ap, sym, ◌∙◌, length-set, length-append}
use Rattle.std.specs.List.{list_any}
use Rattle.std.proofs.lemmas.List.{get_or-map, length-map, get_or-set_same, get_or-set_other, get_or_append_left, get_or_at}
use Rattle.std.proofs.lemmas.Bool.Decides.{nat_tests}
use Rattle.tableau.specs.Tables.{Table, crossed_numbers, exchanged_table, exchanged_row, exchanged_pivot}
use Rattle.sdc_base.specs.Systems.{number_at}
use Rattle.tableau.specs.Widths.{is_wide, all_rows, products_in_pivot, products_outside, IsWideAt}
use Rattle.tableau.proofs.Dots.{length-crossed_numbers, get_or-crossed_numbers}
use Rattle.tableau.proofs.Independent.{by_less}

pub outside_at : (den : ℤ) (pivot : List ℤ) (column : ℕ) (own : List ℤ) (j : ℕ) → length own ≡ length pivot → j < length own → j ≢ column →
    number_at own j *ℤ number_at pivot column -ℤ number_at own column *ℤ number_at pivot j ≡ number_at (exchanged_row den pivot column own) j
outside_at den pivot column own j same within apart =
    sym (get_or-set_other (crossed_numbers (number_at pivot column) (number_at own column) own pivot) column j (neg_ℤ (number_at own column *ℤ den)) (pos 0) apart ∙ get_or-crossed_numbers (number_at pivot column) (number_at own column) own pivot j same within)

pub outside_own : (den : ℤ) (pivot : List ℤ) (column : ℕ) (own : List ℤ) (j : ℕ) → length own ≡ length pivot → column < length own → j ≡ column → neg_ℤ (number_at own column *ℤ den) ≡ number_at (exchanged_row den pivot column own) j
outside_own den pivot column own j same within is =
    let cross : List ℤ = crossed_numbers (number_at pivot column) (number_at own column) own pivot in
    sym (ap (number_at (exchanged_row den pivot column own)) is ∙ get_or-set_same cross column (neg_ℤ (number_at own column *ℤ den)) (pos 0) (omega (arith, length-crossed_numbers (number_at pivot column) (number_at own column) own pivot same)))

pub row_after_pivot : (t : Table) (row column k : ℕ) → length t.rows ≡ length t.members → row < length t.members → k ≡ row →
    exchanged_pivot t.den (slice_index_or t.rows row []) column ≡ slice_index_or (all_rows (exchanged_table t row column)) k []
row_after_pivot t row column k same within is =
    let pivot : List ℤ = slice_index_or t.rows row [] in
    let change : List ℤ → List ℤ = exchanged_row t.den pivot column in
    let after : Table = exchanged_table t row column in
    let long : length (map change t.rows) ≡ length t.rows = length-map t.rows change in
    sym (ap (λ n. slice_index_or (all_rows after) n []) is
    ∙ get_or_append_left after.rows (after.objective ∷ []) [] row (omega (arith, length-set (map change t.rows) row (exchanged_pivot t.den pivot column)))
    ∙ get_or-set_same (map change t.rows) row (exchanged_pivot t.den pivot column) [] (omega arith))

pub row_after_other : (t : Table) (row column k : ℕ) → length t.rows ≡ length t.members → row < length t.members → k ≤ length t.members → k ≢ row →
    exchanged_row t.den (slice_index_or t.rows row []) column (slice_index_or (all_rows t) k []) ≡ slice_index_or (all_rows (exchanged_table t row column)) k []
row_after_other t row column k same row_within within apart =
    let pivot : List ℤ = slice_index_or t.rows row [] in
    let change : List ℤ → List ℤ = exchanged_row t.den pivot column in
    let after : Table = exchanged_table t row column in
    let long : length (map change t.rows) ≡ length t.rows = length-map t.rows change in
    let rows_long : length after.rows ≡ length (map change t.rows) = length-set (map change t.rows) row (exchanged_pivot t.den pivot column) in
    by_less k (length t.rows)
    (λ less.
    ap change (get_or_append_left t.rows (t.objective ∷ []) [] k less)
    ∙ sym (get_or_append_left after.rows (after.objective ∷ []) [] k (omega arith)
    ∙ get_or-set_other (map change t.rows) row k (exchanged_pivot t.den pivot column) [] apart
    ∙ get_or-map change t.rows k [] [] less))
    (λ more.
    ap change (get_or_at t.rows t.objective [] [] k (omega arith))
    ∙ sym (get_or_at after.rows after.objective [] [] k (omega arith)))

pub wide_pivot : (t : Table) (row column k j : ℕ) → k ≡ row → list_any is_wide (products_in_pivot t.den (slice_index_or t.rows row []) column j) ≡ true → IsWideAt t row column k j
wide_pivot t row column k j is wide = let test : (k == row) ≡ true = grind (arith, nat_tests) in rw test wide

pub wide_other : (t : Table) (row column k j : ℕ) → k ≢ row → list_any is_wide (products_outside t.den (slice_index_or t.rows row []) (slice_index_or (all_rows t) k []) column j) ≡ true → IsWideAt t row column k j
wide_other t row column k j apart wide = let test : (k == row) ≡ false = grind (arith, nat_tests) in rw test wide

pub length-all_rows : (t : Table) (row column : ℕ) → length (all_rows (exchanged_table t row column)) ≡ length t.rows + 1
length-all_rows t row column =
    let pivot : List ℤ = slice_index_or t.rows row [] in
    let change : List ℤ → List ℤ = exchanged_row t.den pivot column in
    omega (arith, length-append (set (map change t.rows) row (exchanged_pivot t.den pivot column)) ((exchanged_table t row column).objective ∷ []), length-set (map change t.rows) row (exchanged_pivot t.den pivot column), length-map t.rows change)
