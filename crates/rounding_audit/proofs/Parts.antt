-- The parts of a relation, taken off its total one after another.
use Rattle.std.proofs.Common.{◌≡◌, ◌≢◌, ℕ, zero, suc, ◌+◌, ◌<◌, List, [], ◌∷◌, length, take, drop, get_or, All, ℤ, pos, ◌+ℤ◌, ◌-ℤ◌, ◌<ℤ◌, ◌≤ℤ◌, arith, ap, sym, ◌∙◌}
use Rattle.std.proofs.lemmas.Int.{ints}
use Rattle.std.proofs.lemmas.List.{take-append-drop, drop_more}
use Rattle.std.proofs.lemmas.List.Elements.{All-head, All-tail}
use Rattle.sdc_base.specs.Systems.{Numbers, number_at}
use Rattle.sdc_base.specs.Totals.{sum_of}
use Rattle.sdc_base.proofs.TotalLemmas.{sum_of-append, sum_of-cons}

-- the number of each cell is from 0
pub each_from_zero : (values : List ℤ) (cell : ℕ) → All (λ value. pos 0 ≤ℤ value) values → pos 0 ≤ℤ number_at values cell
each_from_zero [] cell all = omega (arith, ints)
each_from_zero (value ∷ values) zero all = All-head (λ (one : ℤ). pos 0 ≤ℤ one) value values all
each_from_zero (value ∷ values) (suc cell) all = each_from_zero values cell (All-tail (λ (one : ℤ). pos 0 ≤ℤ one) value values all)

sum_from_zero : (numbers : Numbers) (parts : List ℕ) → ((cell : ℕ) → pos 0 ≤ℤ numbers cell) → pos 0 ≤ℤ sum_of numbers parts
sum_from_zero numbers [] each = omega (arith, ints)
sum_from_zero numbers (part ∷ parts) each = omega (arith, ints, sum_of-cons numbers part parts, each part, sum_from_zero numbers parts each)

-- where a part is more than is left, the relation doesn't hold
pub more_than_left : (numbers : Numbers) (total left : ℤ) (parts : List ℕ) (i part : ℕ) → ((cell : ℕ) → pos 0 ≤ℤ numbers cell) → i < length parts → part ≡ get_or parts i 0 → left ≡ total -ℤ sum_of numbers (take i parts) → left <ℤ numbers part → total -ℤ sum_of numbers parts ≢ pos 0
more_than_left numbers total left parts i part each within is left_is more =
    let whole : sum_of numbers parts ≡ sum_of numbers (take i parts) +ℤ sum_of numbers (drop i parts) = ap (sum_of numbers) (sym (take-append-drop i parts)) ∙ sum_of-append numbers (take i parts) (drop i parts) in
    let rest : sum_of numbers (drop i parts) ≡ numbers part +ℤ sum_of numbers (drop (i + 1) parts) =
    ap (sum_of numbers) (drop_more parts i 0 within) ∙ sum_of-cons numbers (get_or parts i 0) (drop (i + 1) parts) ∙ ap (λ p. numbers p +ℤ sum_of numbers (drop (i + 1) parts)) (sym is) in
    λ none. omega (arith, ints, whole, rest, left_is, more, none, sum_from_zero numbers (drop (i + 1) parts) each)
