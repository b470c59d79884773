-- The truth of a cell over some records.
use Rattle.std.proofs.Common.{◌≡◌, ℕ, ◌+◌, ◌<◌, Bool, true, false, List, [], ◌∷◌, take, filter, fold, length, get_or, cond, ℤ, pos, ◌+ℤ◌, ◌*ℤ◌, ◌≤ℤ◌, negsuc, All, arith, refl, ap, ◌∙◌, if◌then◌else◌}
use Rattle.std.proofs.lemmas.Int.{ints}
use Rattle.std.proofs.lemmas.List.Elements.{filter_more, All-head, All-tail}
use Rattle.std.proofs.lemmas.List.Sums.{fold-append}
use Rattle.sdc_base.specs.Trees.{Tree}
use Rattle.sdc_base.specs.Records.{Name, falls_in, row_falls}
use Rattle.sdc_base.specs.Sums.{truth, weighted_value, rows_in}
use Rattle.sdc_base.specs.declared.rows.Row.{Row}

-- what one record adds to the truth of a cell
abbrev pub share_of_record : List Tree → Name → Row → ℤ
share_of_record trees name row = if row_falls trees name row then weighted_value row else pos 0

-- one record more
pub truth_more : (trees : List Tree) (name : List ℕ) (rows : List Row) (i : ℕ) (d : Row) → i < length rows → truth trees name (take (i + 1) rows) ≡ truth trees name (take i rows) +ℤ share_of_record trees name (get_or rows i d)
truth_more trees name rows i d within =
    let add : ℤ → Row → ℤ = λ sum row. sum +ℤ pos row.weight *ℤ row.value in
    let one : Row = get_or rows i d in
    ap (λ rs. fold add (pos 0) rs) (filter_more (λ (row : Row). falls_in trees name row.codes) rows i d within)
    ∙ fold-append add (pos 0) (rows_in trees name (take i rows)) (cond (falls_in trees name one.codes) (one ∷ []) [])
    ∙ elim (falls_in trees name one.codes) as (λ b. fold add (truth trees name (take i rows)) (cond b (one ∷ []) []) ≡ truth trees name (take i rows) +ℤ (if b then pos one.weight *ℤ one.value else pos 0)) [ true ↦ refl | false ↦ omega (arith, ints) ]

product_from_zero : (weight : ℕ) (value : ℤ) → pos 0 ≤ℤ value → pos 0 ≤ℤ (pos weight *ℤ value)
product_from_zero weight (pos n) h = omega (arith, ints)
product_from_zero weight (negsuc n) h = absurd (omega (arith, ints))

sum_from_zero : (falls : Row → Bool) (sum : ℤ) (rows : List Row) → pos 0 ≤ℤ sum → All (λ row. pos 0 ≤ℤ row.value) rows → pos 0 ≤ℤ fold (λ sum row. sum +ℤ weighted_value row) sum (filter falls rows)
sum_from_zero falls sum [] h all = h
sum_from_zero falls sum (row ∷ rows) h all =
    let here : pos 0 ≤ℤ weighted_value row = product_from_zero row.weight row.value (All-head (λ (r : Row). pos 0 ≤ℤ r.value) row rows all) in
    let rest : All (λ (r : Row). pos 0 ≤ℤ r.value) rows = All-tail (λ (r : Row). pos 0 ≤ℤ r.value) row rows all in
    elim (falls row) as (λ b. pos 0 ≤ℤ fold (λ (s : ℤ) (r : Row). s +ℤ weighted_value r) sum (cond b (row ∷ filter falls rows) (filter falls rows))) [
      | true ↦ sum_from_zero falls (sum +ℤ weighted_value row) rows (omega (arith, ints)) rest
      | false ↦ sum_from_zero falls sum rows h rest
    ]

-- values from 0 on have a truth from 0 on
pub truth_from_zero : (trees : List Tree) (name : Name) (rows : List Row) → All (λ row. pos 0 ≤ℤ row.value) rows → pos 0 ≤ℤ truth trees name rows
truth_from_zero trees name rows all = sum_from_zero (row_falls trees name) (pos 0) rows (omega (arith, ints)) all
