-- Lists under an exchange.
use Rattle.std.proofs.Common.{◌≡◌, ◌≢◌, inl, inr, ◌==◌, true, false, set, length-set, ℕ, zero, suc, ◌+◌, ◌<◌, List, [], length, map, zip, slice_index, slice_index_or, get_or, ℤ, pos, negsuc, neg_ℤ, ◌+ℤ◌, ◌-ℤ◌, ◌*ℤ◌, ◌<ℤ◌, ◌≤ℤ◌, arith, refl, ap, sym, subst, ◌∙◌, if◌then◌else◌}
use Rattle.std.proofs.lemmas.Int.{ints, by_lt_z}
use Rattle.std.proofs.lemmas.List.{get_or-map, length-map, get_or-set_same, get_or-set_other}
use Rattle.sdc_base.proofs.TotalLemmas.{sum_of-cons}
use Rattle.sdc_base.proofs.WholeNumbers.{times_up, times_more, minus_times, assoc, distrib}
use Rattle.tableau.specs.Tables.{Table, HasShape, exchanged_table, exchanged_row, exchanged_pivot, crossed_numbers, form_at, objective_form}
use Rattle.sdc_base.specs.Systems.{number_at}
use Rattle.tableau.specs.declared.problem.Problem.{Problem}
use Rattle.tableau.specs.Problems.{number_in, rows_of}
use Rattle.tableau.specs.RowLists.{IsLexPositive, list_of, objective_list, list_size, ExchangeRises, Leaves, RowsAreLexPositive, AreZeros}
use Rattle.tableau.proofs.Exchanges.{exchange_operates, times_none, by_place}
use Rattle.tableau.proofs.Dots.{length-crossed_numbers, back}
use Rattle.tableau.proofs.DualNumbers.{dot_zip, unit_at, value_of-unit, value_of-none}

-- ---- the lexicographic order

pub product_above : (a x : ℤ) → pos 1 ≤ℤ a → pos 0 <ℤ x → pos 0 <ℤ (a *ℤ x)
product_above a x up more = omega (arith, ints, times_more a (pos 0) x up more, times_none a)

product_not_below : (a x : ℤ) → pos 0 ≤ℤ a → pos 0 <ℤ x → pos 0 ≤ℤ (a *ℤ x)
product_not_below a x up more = omega (arith, ints, times_up a (pos 0) x up (omega (arith, ints)), times_none a)

pub none_times : (b x : ℤ) → b ≡ pos 0 → b *ℤ x ≡ pos 0
none_times b x none = ap (λ t. t *ℤ x) none ∙ omega (arith, ints)

pub by_sign : {P : Type 0} (b : ℤ) → pos 0 ≤ℤ b → (pos 1 ≤ℤ b → P) → (b ≡ pos 0 → P) → P
by_sign b also above none = by_lt_z (pos 0) b (λ more. above (omega (arith, ints))) (λ less. none (omega (arith, ints)))

pub scaled_alone : (n from : ℕ) (a b : ℤ) (g h : ℕ → ℤ) → pos 1 ≤ℤ a → b ≡ pos 0 → IsLexPositive n from g → IsLexPositive n from (λ i. a *ℤ g i +ℤ b *ℤ h i)
scaled_alone zero from a b g h up none one = one
scaled_alone (suc n) from a b g h up none one =
    elim one as (λ _. IsLexPositive (suc n) from (λ i. a *ℤ g i +ℤ b *ℤ h i)) [
      | inl more ↦ inl (omega (arith, ints, product_above a (g from) up more, none_times b (h from) none))
      | inr later ↦ inr (omega (arith, ints, ap (λ t. a *ℤ t) later.0, times_none a, none_times b (h from) none), scaled_alone n (suc from) a b g h up none later.1)
    ]

pub above_mixed : (n from : ℕ) (a b : ℤ) (g h : ℕ → ℤ) → pos 1 ≤ℤ a → pos 0 ≤ℤ b → IsLexPositive n from g → IsLexPositive n from h → IsLexPositive n from (λ i. a *ℤ g i +ℤ b *ℤ h i)
above_mixed zero from a b g h up also one other = one
above_mixed (suc n) from a b g h up also one other =
    elim one as (λ _. IsLexPositive (suc n) from (λ i. a *ℤ g i +ℤ b *ℤ h i)) [
      | inl more ↦ elim other as (λ _. IsLexPositive (suc n) from (λ i. a *ℤ g i +ℤ b *ℤ h i)) [
        | inl too ↦ inl (omega (arith, ints, product_above a (g from) up more, product_not_below b (h from) also too))
        | inr later ↦ inl (omega (arith, ints, product_above a (g from) up more, ap (λ t. b *ℤ t) later.0, times_none b))
      ]
      | inr later ↦ elim other as (λ _. IsLexPositive (suc n) from (λ i. a *ℤ g i +ℤ b *ℤ h i)) [
        | inl too ↦ by_sign b also
            (λ b_above. inl (omega (arith, ints, ap (λ t. a *ℤ t) later.0, times_none a, product_above b (h from) b_above too)))
            (λ b_none. inr (omega (arith, ints, ap (λ t. a *ℤ t) later.0, times_none a, none_times b (h from) b_none), scaled_alone n (suc from) a b g h up b_none later.1))
        | inr also_later ↦ inr (omega (arith, ints, ap (λ t. a *ℤ t) later.0, times_none a, ap (λ t. b *ℤ t) also_later.0, times_none b), above_mixed n (suc from) a b g h up also later.1 also_later.1)
      ]
    ]

-- ---- a list's numbers are forms

own_times : (den : ℤ) (member v : ℕ) → den *ℤ unit_at v member ≡ (if member == v then den else pos 0)
own_times den member v = elim (member == v) as (λ b. den *ℤ (if b then pos 1 else pos 0) ≡ (if b then den else pos 0)) [ true ↦ omega (arith, ints) | false ↦ times_none den ]

form_is_number : (table : Table) (k v : ℕ) → length (slice_index_or table.rows k []) ≡ length table.others + 1 → form_at table (unit_at v) (pos 0) k ≡ number_in table k v
form_is_number table k v long =
    let row : List ℤ = slice_index_or table.rows k [] in
    let member : ℕ = slice_index table.members k in
    omega (arith, ints, dot_zip table.others row (unit_at v) (neg_ℤ (pos 0)) long, times_none (get_or row (length table.others) (pos 0)), value_of-unit v (zip table.others row), own_times table.den member v, sum_of-cons (λ (t : ℕ × ℤ). if t.0 == v then t.1 else pos 0) (member, table.den) (zip table.others row))

form_is_value : (table : Table) (k : ℕ) → length (slice_index_or table.rows k []) ≡ length table.others + 1 → form_at table (λ _. pos 0) (negsuc 0) k ≡ number_at (slice_index_or table.rows k []) (length table.others)
form_is_value table k long =
    let row : List ℤ = slice_index_or table.rows k [] in
    omega (arith, ints, dot_zip table.others row (λ _. pos 0) (pos 1) long, times_none table.den, value_of-none (zip table.others row))

-- what stands for a place of a list
abbrev pub probe_amounts : Problem → ℕ → ℕ → ℤ
probe_amounts problem zero = λ _. pos 0
probe_amounts problem (suc s) = unit_at (problem.columns + s)

abbrev pub probe_whole : ℕ → ℤ
probe_whole zero = negsuc 0
probe_whole (suc s) = pos 0

pub list_is_form : (problem : Problem) (table : Table) (k i : ℕ) → length (slice_index_or table.rows k []) ≡ length table.others + 1 → list_of problem table k i ≡ form_at table (probe_amounts problem i) (probe_whole i) k
list_is_form problem table k zero long = sym (form_is_value table k long)
list_is_form problem table k (suc s) long = sym (form_is_number table k (problem.columns + s) long)

-- ---- the exchanged table is shaped

pub length-row : (den : ℤ) (pivot : List ℤ) (column : ℕ) (row : List ℤ) → length row ≡ length pivot → length (exchanged_row den pivot column row) ≡ length row
length-row den pivot column row same = length-set (crossed_numbers (number_at pivot column) (number_at row column) row pivot) column (neg_ℤ (number_at row column *ℤ den)) ∙ length-crossed_numbers (number_at pivot column) (number_at row column) row pivot same

pub length-pivot : (den : ℤ) (pivot : List ℤ) (column : ℕ) → length (exchanged_pivot den pivot column) ≡ length pivot
length-pivot den pivot column = length-set (map (λ (g : ℤ). g *ℤ den) pivot) column (den *ℤ den) ∙ length-map pivot (λ (g : ℤ). g *ℤ den)

pub shaped_exchanged : (table : Table) (row column : ℕ) → HasShape table → row < length table.members → HasShape (exchanged_table table row column)
shaped_exchanged table row column shaped within =
    let pivot : List ℤ = slice_index_or table.rows row [] in
    let change : List ℤ → List ℤ = exchanged_row table.den pivot column in
    let changed : List (List ℤ) = map change table.rows in
    let new_pivot : List ℤ = exchanged_pivot table.den pivot column in
    let members : length (set table.members row (slice_index table.others column)) ≡ length table.members = length-set table.members row (slice_index table.others column) in
    let others : length (set table.others column (slice_index table.members row)) ≡ length table.others = length-set table.others column (slice_index table.members row) in
    let rows : length changed ≡ length table.rows = length-map table.rows change in
    let pivot_long : length pivot ≡ length table.others + 1 = shaped.each row within in
    record {
      rows = length-set changed row new_pivot ∙ rows ∙ shaped.rows ∙ sym members;
      each = λ k below.
          let k_within : k < length table.members = omega arith in
          by_place k row
          (λ same. ap (λ j. length (get_or (set changed row new_pivot) j [])) same ∙ ap length (get_or-set_same changed row new_pivot [] (omega (arith, shaped.rows))) ∙ length-pivot table.den pivot column ∙ pivot_long ∙ ap (λ n. n + 1) (sym others))
          (λ other.
          let old : List ℤ = get_or table.rows k [] in
          ap length (get_or-set_other changed row k new_pivot [] other ∙ get_or-map change table.rows k [] [] (omega (arith, shaped.rows))) ∙ length-row table.den pivot column old (shaped.each k k_within ∙ sym pivot_long) ∙ shaped.each k k_within ∙ ap (λ n. n + 1) (sym others));
      objective = length-row table.den pivot column table.objective (shaped.objective ∙ sym pivot_long) ∙ shaped.objective ∙ ap (λ n. n + 1) (sym others);
    }

-- ---- lists under an exchange

pub pivot_list : (problem : Problem) (table : Table) (row column : ℕ) → HasShape table → row < length table.members → column < length table.others → (i : ℕ) → list_of problem (exchanged_table table row column) row i ≡ table.den *ℤ list_of problem table row i
pivot_list problem table row column shaped within column_within i =
    let after : HasShape (exchanged_table table row column) = shaped_exchanged table row column shaped within in
    let size : length (set table.members row (slice_index table.others column)) ≡ length table.members = length-set table.members row (slice_index table.others column) in
    list_is_form problem (exchanged_table table row column) row i (after.each row (omega arith))
    ∙ (exchange_operates table row column shaped within column_within (probe_amounts problem i) (pos 0) (probe_whole i)).pivot_row
    ∙ ap (λ t. table.den *ℤ t) (sym (list_is_form problem table row i (shaped.each row within)))

pub other_list : (problem : Problem) (table : Table) (row column k : ℕ) → HasShape table → row < length table.members → column < length table.others → k < length table.members → k ≢ row → (i : ℕ) → list_of problem (exchanged_table table row column) k i ≡ number_at (slice_index_or table.rows row []) column *ℤ list_of problem table k i -ℤ number_at (slice_index_or table.rows k []) column *ℤ list_of problem table row i
other_list problem table row column k shaped within column_within k_within other i =
    let after : HasShape (exchanged_table table row column) = shaped_exchanged table row column shaped within in
    let size : length (set table.members row (slice_index table.others column)) ≡ length table.members = length-set table.members row (slice_index table.others column) in
    let p : ℤ = number_at (slice_index_or table.rows row []) column in
    let f : ℤ = number_at (slice_index_or table.rows k []) column in
    list_is_form problem (exchanged_table table row column) k i (after.each k (omega arith))
    ∙ (exchange_operates table row column shaped within column_within (probe_amounts problem i) (pos 0) (probe_whole i)).other_rows k k_within other
    ∙ ap (λ t. p *ℤ t -ℤ f *ℤ form_at table (probe_amounts problem i) (probe_whole i) row) (sym (list_is_form problem table k i (shaped.each k k_within)))
    ∙ ap (λ t. p *ℤ list_of problem table k i -ℤ f *ℤ t) (sym (list_is_form problem table row i (shaped.each row within)))

-- ---- the lists rise

pub above_same : (n from : ℕ) (g h : ℕ → ℤ) → ((i : ℕ) → g i ≡ h i) → IsLexPositive n from g → IsLexPositive n from h
above_same zero from g h same one = one
above_same (suc n) from g h same one =
    elim one as (λ _. IsLexPositive (suc n) from h) [
      | inl more ↦ inl (omega (arith, ints, same from))
      | inr later ↦ inr (sym (same from) ∙ later.0, above_same n (suc from) g h same later.1)
    ]

pub objective_is_form : (problem : Problem) (table : Table) (i : ℕ) → length table.objective ≡ length table.others + 1 → objective_list problem table i ≡ objective_form table (probe_amounts problem i) (pos 0) (probe_whole i)
objective_is_form problem table zero long = omega (arith, ints, dot_zip table.others table.objective (λ _. pos 0) (pos 1) long, times_none table.den, value_of-none (zip table.others table.objective))
objective_is_form problem table (suc s) long = omega (arith, ints, dot_zip table.others table.objective (unit_at (problem.columns + s)) (neg_ℤ (pos 0)) long, times_none table.den, times_none (get_or table.objective (length table.others) (pos 0)), value_of-unit (problem.columns + s) (zip table.others table.objective))

pub objective_change : (problem : Problem) (table : Table) (row column : ℕ) → HasShape table → row < length table.members → column < length table.others → (i : ℕ) → objective_list problem (exchanged_table table row column) i ≡ number_at (slice_index_or table.rows row []) column *ℤ objective_list problem table i -ℤ number_at table.objective column *ℤ list_of problem table row i
objective_change problem table row column shaped within column_within i =
    let after : HasShape (exchanged_table table row column) = shaped_exchanged table row column shaped within in
    let p : ℤ = number_at (slice_index_or table.rows row []) column in
    let f : ℤ = number_at table.objective column in
    objective_is_form problem (exchanged_table table row column) i after.objective
    ∙ (exchange_operates table row column shaped within column_within (probe_amounts problem i) (pos 0) (probe_whole i)).objective_row
    ∙ ap (λ t. p *ℤ t -ℤ f *ℤ form_at table (probe_amounts problem i) (probe_whole i) row) (sym (objective_is_form problem table i shaped.objective))
    ∙ ap (λ t. p *ℤ objective_list problem table i -ℤ f *ℤ t) (sym (list_is_form problem table row i (shaped.each row within)))

-- den * (p * x - f * y) - (den * p) * x is -(den * f) * y
left_over : (den p f x y : ℤ) → neg_ℤ (den *ℤ f) *ℤ y +ℤ pos 0 *ℤ y ≡ den *ℤ (p *ℤ x -ℤ f *ℤ y) -ℤ (den *ℤ p) *ℤ x
left_over den p f x y =
    omega (arith, ints, minus_times (den *ℤ f) y, assoc den f y, assoc den p x, distrib den (p *ℤ x -ℤ f *ℤ y) (f *ℤ y), ap (λ t. den *ℤ t) (back (p *ℤ x) (f *ℤ y)))

turned : (p f x y : ℤ) → p *ℤ x +ℤ neg_ℤ f *ℤ y ≡ p *ℤ x -ℤ f *ℤ y
turned p f x y = omega (arith, ints, minus_times f y)

-- rows' lists stay above 0, whatever the objective's number
pub rows_stay : (problem : Problem) (table : Table) (row column : ℕ) → HasShape table → pos 1 ≤ℤ table.den → column < length table.others → Leaves problem table row column → RowsAreLexPositive problem table →
    ((k : ℕ) → k < length table.members → AreZeros (length (rows_of problem)) 1 (list_of problem (exchanged_table table row column) k) → ⊥) → RowsAreLexPositive problem (exchanged_table table row column)
rows_stay problem table row column shaped den column_within leaves above not_none =
    let p : ℤ = number_at (slice_index_or table.rows row []) column in
    let size : ℕ = list_size problem in
    let own : ℕ → ℤ = list_of problem table row in
    let after : Table = exchanged_table table row column in
    let same_size : length (set table.members row (slice_index table.others column)) ≡ length table.members = length-set table.members row (slice_index table.others column) in
    λ k k_below.
    let k_within : k < length table.members = omega arith in
    by_place k row
    (λ same.
    let whole : IsLexPositive size 0 (λ i. table.den *ℤ own i +ℤ pos 0 *ℤ own i) = scaled_alone size 0 table.den (pos 0) own own den refl (above row leaves.row_within) in
    subst (λ j. IsLexPositive size 0 (list_of problem after j)) (sym same)
    (above_same size 0 (λ i. table.den *ℤ own i +ℤ pos 0 *ℤ own i) (list_of problem after row) (λ i. omega (arith, ints, pivot_list problem table row column shaped leaves.row_within column_within i)) whole))
    (λ other.
    let f : ℤ = number_at (slice_index_or table.rows k []) column in
    let old : ℕ → ℤ = list_of problem table k in
    let mixed : ℕ → ℤ = λ i. p *ℤ old i -ℤ f *ℤ own i in
    let is : (i : ℕ) → mixed i ≡ list_of problem after k i = λ i. sym (other_list problem table row column k shaped leaves.row_within column_within k_within other i) in
    by_lt_z (pos 0) f
    (λ up.
    elim (leaves.least k k_within other (omega (arith, ints))) as (λ _. IsLexPositive size 0 (list_of problem after k)) [
      | inl more ↦ above_same size 0 mixed (list_of problem after k) is more
      | inr none ↦ absurd (not_none k k_within (λ i i_below. sym (is (1 + i)) ∙ ap mixed (omega arith) ∙ none.0 (suc i) (omega arith)))
    ])
    (λ down. above_same size 0 mixed (list_of problem after k) is (above_same size 0 (λ i. p *ℤ old i +ℤ neg_ℤ f *ℤ own i) mixed (λ i. turned p f (old i) (own i)) (above_mixed size 0 p (neg_ℤ f) old own leaves.above (omega (arith, ints)) (above k k_within) (above row leaves.row_within)))))

pub exchange_rises : ExchangeRises
exchange_rises problem table row column shaped den column_within leaves above not_none below =
    let size : ℕ = list_size problem in
    let own : ℕ → ℤ = list_of problem table row in
    let after : Table = exchanged_table table row column in
    let p : ℤ = number_at (slice_index_or table.rows row []) column in
    let f0 : ℤ = number_at table.objective column in
    let factor : pos 1 ≤ℤ neg_ℤ (table.den *ℤ f0) = omega (arith, ints, times_more table.den f0 (pos 0) den below, times_none table.den) in (
      rows_stay problem table row column shaped den column_within leaves above not_none,
      above_same size 0 (λ i. neg_ℤ (table.den *ℤ f0) *ℤ own i +ℤ pos 0 *ℤ own i) (λ i. table.den *ℤ objective_list problem after i -ℤ after.den *ℤ objective_list problem table i)
          (λ i. left_over table.den p f0 (objective_list problem table i) (own i) ∙ ap (λ t. table.den *ℤ t -ℤ after.den *ℤ objective_list problem table i) (sym (objective_change problem table row column shaped leaves.row_within column_within i)))
          (scaled_alone size 0 (neg_ℤ (table.den *ℤ f0)) (pos 0) own own factor refl (above row leaves.row_within)),
    )
