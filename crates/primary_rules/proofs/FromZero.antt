-- Where no value is below 0, no figure is.
use Rattle.std.proofs.Common.{ℕ, ◌-◌, ◌*◌, min, true, false, List, [], ◌∷◌, All, fold, map, ℤ, pos, ◌+ℤ◌, ◌*ℤ◌, ◌≤ℤ◌, arith, mul-le-mul_right, if◌then◌else◌}
use Rattle.std.proofs.lemmas.Int.{ints}
use Rattle.std.proofs.lemmas.List.Elements.{All-head, All-tail, All-cons, All-nil}
use Rattle.sdc_base.specs.Trees.{Tree}
use Rattle.sdc_base.specs.Records.{Name, row_falls}
use Rattle.sdc_base.specs.Sums.{rows_in, weighted_value}
use Rattle.sdc_base.specs.Largest.{contribution, ranking_of, first_steps, contributions}
use Rattle.sdc_base.specs.declared.rows.Row.{Row}
use Rattle.sdc_base.specs.declared.tops.Unit.{Unit as Contribution}
use Rattle.primary_rules.specs.Strictness.{ValuesFromZeroAreEnough}
use Rattle.primary_rules.proofs.Stricter.{times_of}
use Rattle.primary_rules.proofs.FurtherContributor.{FromZero, from_zero_ranked, more_steps}

abbrev RowsFromZero : List Row → Type 0
RowsFromZero rows = All (λ row. pos 0 ≤ℤ row.value) rows

in_cell : (trees : List Tree) (name : Name) (rows : List Row) → RowsFromZero rows → RowsFromZero (rows_in trees name rows)
in_cell trees name [] all = all
in_cell trees name (row ∷ rows) all =
    let P : Row → Type 0 = λ (r : Row). pos 0 ≤ℤ r.value in
    let behind : RowsFromZero (rows_in trees name rows) = in_cell trees name rows (All-tail P row rows all) in
    elim (row_falls trees name row) as (λ b. RowsFromZero (if b then row ∷ rows_in trees name rows else rows_in trees name rows)) [
      | true ↦ All-cons P row (rows_in trees name rows) (All-head P row rows all) behind
      | false ↦ behind
    ]

of_rows : (rows : List Row) → RowsFromZero rows → All (λ unit. pos 0 ≤ℤ unit.value) (map (λ (row : Row). contribution row.value row.weight) rows)
of_rows [] all = All-nil (λ (unit : Contribution). pos 0 ≤ℤ unit.value)
of_rows (row ∷ rows) all =
    let P : Row → Type 0 = λ (r : Row). pos 0 ≤ℤ r.value in
    All-cons (λ (unit : Contribution). pos 0 ≤ℤ unit.value) (contribution row.value row.weight) (map (λ (r : Row). contribution r.value r.weight) rows) (All-head P row rows all) (of_rows rows (All-tail P row rows all))

sum_from : (start : ℤ) (rows : List Row) → pos 0 ≤ℤ start → RowsFromZero rows → pos 0 ≤ℤ fold (λ sum row. sum +ℤ weighted_value row) start rows
sum_from start [] from all = from
sum_from start (row ∷ rows) from all =
    let P : Row → Type 0 = λ (r : Row). pos 0 ≤ℤ r.value in
    let own : (pos 0 *ℤ row.value) ≤ℤ (pos row.weight *ℤ row.value) = times_of 0 row.weight row.value (omega arith) (All-head P row rows all) in
    sum_from (start +ℤ weighted_value row) rows (omega (arith, ints, from, own)) (All-tail P row rows all)

steps_from : (steps : ℕ) (units : List Contribution) → FromZero units → pos 0 ≤ℤ first_steps steps units
steps_from steps [] all = omega (arith, ints)
steps_from steps (unit ∷ units) all =
    let own : (pos 0 *ℤ unit.value) ≤ℤ (pos (min unit.weight steps) *ℤ unit.value) = times_of 0 (min unit.weight steps) unit.value (omega arith) all.0 in
    omega (arith, ints, own, steps_from (steps - unit.weight) units all.1)

pub values_from_zero_are_enough : ValuesFromZeroAreEnough
values_from_zero_are_enough trees name rows scale all =
    let here : RowsFromZero (rows_in trees name rows) = in_cell trees name rows all in
    let zero_on : FromZero (ranking_of (contributions trees name rows)) = from_zero_ranked [] (contributions trees name rows) tt (of_rows (rows_in trees name rows) here) in
    record {
      truth = sum_from (pos 0) (rows_in trees name rows) (omega (arith, ints)) here;
      largest = λ n. steps_from (n * scale) (ranking_of (contributions trees name rows)) zero_on;
      more = λ n m h. more_steps (n * scale) (m * scale) (ranking_of (contributions trees name rows)) (mul-le-mul_right scale h) zero_on;
    }
