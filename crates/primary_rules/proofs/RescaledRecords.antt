-- Where all values are in the new unit, so are the figures of each cell.
use Rattle.std.proofs.Common.{◌≡◌, ℕ, ◌-◌, ◌*◌, ◌≤◌, min, true, false, List, [], ◌∷◌, map, fold, length, ℤ, pos, ◌+ℤ◌, ◌*ℤ◌, int_lt, arith, refl, ap, sym, subst, ◌∙◌, if◌then◌else◌}
use Rattle.std.proofs.lemmas.Int.{ints}
use Rattle.std.proofs.lemmas.List.{length-map}
use Rattle.sdc_base.proofs.WholeNumbers.{distrib, swap_times}
use Rattle.sdc_base.specs.Trees.{Tree}
use Rattle.sdc_base.specs.Records.{Name, row_falls}
use Rattle.sdc_base.specs.Sums.{rows_in, weighted_value}
use Rattle.sdc_base.specs.Largest.{contribution, with_contribution, ranking_of, first_steps, largest_sum, contributions}
use Rattle.sdc_base.specs.declared.rows.Row.{Row}
use Rattle.sdc_base.specs.declared.tops.Unit.{Unit as Contribution}
use Rattle.primary_rules.specs.Units.{row_in_units, RecordsAreRescaled}
use Rattle.primary_rules.proofs.Rescaling.{less_rescaled}

rows_rescaled : (t : ℕ) (trees : List Tree) (name : Name) (rows : List Row) → rows_in trees name (map (row_in_units t) rows) ≡ map (row_in_units t) (rows_in trees name rows)
rows_rescaled t trees name [] = refl
rows_rescaled t trees name (row ∷ rows) =
    elim (row_falls trees name row) as (λ b. (if b then row_in_units t row ∷ rows_in trees name (map (row_in_units t) rows) else rows_in trees name (map (row_in_units t) rows)) ≡ map (row_in_units t) (if b then row ∷ rows_in trees name rows else rows_in trees name rows)) [
      | true ↦ ap (λ xs. row_in_units t row ∷ xs) (rows_rescaled t trees name rows)
      | false ↦ rows_rescaled t trees name rows
    ]

sum_rescaled : (t : ℕ) (start : ℤ) (rows : List Row) → fold (λ sum row. sum +ℤ weighted_value row) (pos t *ℤ start) (map (row_in_units t) rows) ≡ pos t *ℤ fold (λ sum row. sum +ℤ weighted_value row) start rows
sum_rescaled t start [] = refl
sum_rescaled t start (row ∷ rows) =
    let next : pos t *ℤ start +ℤ pos row.weight *ℤ (pos t *ℤ row.value) ≡ pos t *ℤ (start +ℤ weighted_value row) =
    omega (arith, ints, swap_times (pos row.weight) (pos t) row.value, distrib (pos t) start (pos row.weight *ℤ row.value)) in
    ap (λ s. fold (λ sum r. sum +ℤ weighted_value r) s (map (row_in_units t) rows)) next ∙ sum_rescaled t (start +ℤ weighted_value row) rows

-- ---- the largest contributions

abbrev grown : ℕ → Contribution → Contribution
grown t unit = contribution (pos t *ℤ unit.value) unit.weight

placed_grown : (t : ℕ) (units : List Contribution) (new : Contribution) → 1 ≤ t → with_contribution (map (grown t) units) (grown t new) ≡ map (grown t) (with_contribution units new)
placed_grown t [] new h = refl
placed_grown t (unit ∷ units) new h =
    subst (λ b. (if b then grown t new ∷ grown t unit ∷ map (grown t) units else grown t unit ∷ with_contribution (map (grown t) units) (grown t new)) ≡ map (grown t) (with_contribution (unit ∷ units) new)) (sym (less_rescaled t unit.value new.value h))
    (elim (int_lt unit.value new.value) as (λ b. (if b then grown t new ∷ grown t unit ∷ map (grown t) units else grown t unit ∷ with_contribution (map (grown t) units) (grown t new)) ≡ map (grown t) (if b then new ∷ unit ∷ units else unit ∷ with_contribution units new)) [
      | true ↦ refl
      | false ↦ ap (λ xs. grown t unit ∷ xs) (placed_grown t units new h)
    ])

ranked_grown : (t : ℕ) (front units : List Contribution) → 1 ≤ t → fold with_contribution (map (grown t) front) (map (grown t) units) ≡ map (grown t) (fold with_contribution front units)
ranked_grown t front [] h = refl
ranked_grown t front (unit ∷ units) h = ap (λ f. fold with_contribution f (map (grown t) units)) (placed_grown t front unit h) ∙ ranked_grown t (with_contribution front unit) units h

steps_grown : (t steps : ℕ) (units : List Contribution) → first_steps steps (map (grown t) units) ≡ pos t *ℤ first_steps steps units
steps_grown t steps [] = omega (arith, ints)
steps_grown t steps (unit ∷ units) =
    let own : ℕ = min unit.weight steps in
    omega (arith, ints, steps_grown t (steps - unit.weight) units, swap_times (pos own) (pos t) unit.value, distrib (pos t) (pos own *ℤ unit.value) (first_steps (steps - unit.weight) units))

contributions_grown : (t : ℕ) (rows : List Row) → map (λ (row : Row). contribution row.value row.weight) (map (row_in_units t) rows) ≡ map (grown t) (map (λ (row : Row). contribution row.value row.weight) rows)
contributions_grown t [] = refl
contributions_grown t (row ∷ rows) = ap (λ xs. contribution (pos t *ℤ row.value) row.weight ∷ xs) (contributions_grown t rows)

pub records_are_rescaled : RecordsAreRescaled
records_are_rescaled t trees name rows scale h =
    let own : List Row = rows_in trees name rows in
    let these : rows_in trees name (map (row_in_units t) rows) ≡ map (row_in_units t) own = rows_rescaled t trees name rows in
    let start : pos t *ℤ pos 0 ≡ pos 0 = omega (arith, ints) in
    let units : List Contribution = contributions trees name rows in
    record {
      truth = ap (λ xs. fold (λ sum row. sum +ℤ weighted_value row) (pos 0) xs) these ∙ ap (λ s. fold (λ sum row. sum +ℤ weighted_value row) s (map (row_in_units t) own)) (sym start) ∙ sum_rescaled t (pos 0) own;
      freq = ap (λ xs. length xs) these ∙ length-map own (row_in_units t);
      largest = λ n.
          ap (λ xs. largest_sum scale n (map (λ (row : Row). contribution row.value row.weight) xs)) these
          ∙ ap (λ xs. largest_sum scale n xs) (contributions_grown t own)
          ∙ ap (λ xs. first_steps (n * scale) xs) (ranked_grown t [] units h)
          ∙ steps_grown t (n * scale) (ranking_of units);
    }
