-- The parts of a relation, taken off its total one after another.
use Rattle.std.proofs.Common.{◌≡◌, ℕ, zero, suc, ◌+◌, ◌<◌, true, false, List, [], ◌∷◌, length, take, drop, get_or, All, ℤ, pos, ◌+ℤ◌, ◌-ℤ◌, ◌<ℤ◌, ◌≤ℤ◌, int_lt, arith, refl, ap, sym, ◌∙◌}
use Rattle.std.specs.Bool.{Decides, one_answer}
use Rattle.std.specs.Ordering.{int_eq}
use Rattle.std.proofs.lemmas.Int.{ints}
use Rattle.std.proofs.lemmas.Bool.Decides.{Decides-int_eq}
use Rattle.std.proofs.lemmas.List.{take-append-drop, drop_more}
use Rattle.std.proofs.lemmas.List.Elements.{All-head, All-tail}
use Rattle.std.proofs.lemmas.List.Sums.{fold_more}
use Rattle.sdc_base.specs.Systems.{Numbers, number_at}
use Rattle.sdc_base.specs.Totals.{sum_of}
use Rattle.sdc_base.proofs.TotalLemmas.{sum_of-append, sum_of-cons}

-- the number of each cell is from 0
pub each_from_zero : (values : List ℤ) (cell : ℕ) → All (λ value. pos 0 ≤ℤ value) values → pos 0 ≤ℤ number_at values cell
each_from_zero [] cell all = omega (arith, ints)
each_from_zero (value ∷ values) zero all = All-head (λ (one : ℤ). pos 0 ≤ℤ one) value values all
each_from_zero (value ∷ values) (suc cell) all = each_from_zero values cell (All-tail (λ (one : ℤ). pos 0 ≤ℤ one) value values all)

sum_from_zero : (numbers : Numbers) (parts : List ℕ) → ((cell : ℕ) → pos 0 ≤ℤ numbers cell) → pos 0 ≤ℤ sum_of numbers parts
sum_from_zero numbers [] each = omega (arith, ints)
sum_from_zero numbers (part ∷ parts) each = omega (arith, ints, sum_of-cons numbers part parts, each part, sum_from_zero numbers parts each)

-- the sum with one part more
pub one_part_more : (numbers : Numbers) (parts : List ℕ) (i part : ℕ) → i < length parts → part ≡ get_or parts i 0 → sum_of numbers (take (i + 1) parts) ≡ sum_of numbers (take i parts) +ℤ numbers part
one_part_more numbers parts i part within is = fold_more (λ sum x. sum +ℤ numbers x) (pos 0) parts i 0 within ∙ ap (λ p. sum_of numbers (take i parts) +ℤ numbers p) (sym is)

not_none : (x : ℤ) → x <ℤ pos 0 → int_eq x (pos 0) ≡ false
not_none x under = elim (int_eq x (pos 0)) as (λ b. int_eq x (pos 0) ≡ b → b ≡ false) [
  | true ↦ λ is. let none : x ≡ pos 0 = (Decides-int_eq x (pos 0)).0 is in absurd (omega (arith, ints, none, under))
  | false ↦ λ is. refl
] refl

-- where a part is more than is left, the relation doesn't hold
pub more_than_left : (numbers : Numbers) (total left : ℤ) (parts : List ℕ) (i part : ℕ) → ((cell : ℕ) → pos 0 ≤ℤ numbers cell) → i < length parts → part ≡ get_or parts i 0 → left ≡ total -ℤ sum_of numbers (take i parts) → left <ℤ numbers part → int_eq (total -ℤ sum_of numbers parts) (pos 0) ≡ false
more_than_left numbers total left parts i part each within is left_is more =
    let whole : sum_of numbers parts ≡ sum_of numbers (take i parts) +ℤ sum_of numbers (drop i parts) = ap (sum_of numbers) (sym (take-append-drop i parts)) ∙ sum_of-append numbers (take i parts) (drop i parts) in
    let rest : sum_of numbers (drop i parts) ≡ numbers part +ℤ sum_of numbers (drop (i + 1) parts) =
    ap (sum_of numbers) (drop_more parts i 0 within) ∙ sum_of-cons numbers (get_or parts i 0) (drop (i + 1) parts) ∙ ap (λ p. numbers p +ℤ sum_of numbers (drop (i + 1) parts)) (sym is) in
    not_none (total -ℤ sum_of numbers parts) (omega (arith, ints, whole, rest, left_is, more, sum_from_zero numbers (drop (i + 1) parts) each))

-- ---- bounds of a rounding, asked by differences

decides_lt : (x y : ℤ) → Decides (int_lt x y) (x <ℤ y)
decides_lt x y = (λ is. grind (arith, ints, is), λ within. grind (arith, ints, within))

pub above_lower : (truth value base : ℤ) → int_lt (truth -ℤ value) base ≡ int_lt (truth -ℤ base) value
above_lower truth value base =
    one_answer {P = (truth -ℤ base) <ℤ value} (int_lt (truth -ℤ value) base) (int_lt (truth -ℤ base) value)
    ((λ is. omega (arith, ints, (decides_lt (truth -ℤ value) base).0 is)), (λ within. (decides_lt (truth -ℤ value) base).1 (omega (arith, ints, within))))
    (decides_lt (truth -ℤ base) value)

pub below_upper : (truth value base : ℤ) → int_lt (value -ℤ truth) base ≡ int_lt value (truth +ℤ base)
below_upper truth value base =
    one_answer {P = value <ℤ (truth +ℤ base)} (int_lt (value -ℤ truth) base) (int_lt value (truth +ℤ base))
    ((λ is. omega (arith, ints, (decides_lt (value -ℤ truth) base).0 is)), (λ within. (decides_lt (value -ℤ truth) base).1 (omega (arith, ints, within))))
    (decides_lt value (truth +ℤ base))
