use Rattle.std.proofs.Common.{◌≡◌, ◌≤ℤ◌, ◌^◌, ◌∙◌, arith, rules, sym, subst, ℤ, pos, neg_ℤ, ◌*ℤ◌, int_lt, if◌then◌else◌, FitsSigned, to_z, of_z}
use Rattle.std.specs.Int.{w128}
use Rattle.std.proofs.lemmas.Int.{ints, to_z-of_z}
use Rattle.rounding.proofs.SumSteps.{IsModest, picked_modest, product_within, change_is}
use Rattle.rounding.proofs.numbers.sum_change.Goals as goal

by_is : (c : goal.After-number_by_count-by) → c.number_by_count-by.result ≡ (if int_lt (pos 0) c.count_of-times.result then c.args.one else c.args.other)
by_is c =
    let times : FitsSigned w128 c.count_of-times.result = search rules in
    let one : FitsSigned w128 c.args.one = c.ranges.one in
    let other : FitsSigned w128 c.args.other = c.ranges.other in
    simp to_z-of_z at c.number_by_count-by.ensures

modest : (c : goal.After-number_by_count-by) → IsModest c.number_by_count-by.result
modest c =
    picked_modest (int_lt (pos 0) c.count_of-times.result) c.args.one c.args.other c.number_by_count-by.result (record { low = c.requires.one.0; high = c.requires.one.1 }) (record { low = c.requires.other.0; high = c.requires.other.1 }) (by_is c)

within : (c : goal.After-number_by_count-by) → (neg_ℤ (pos (2 ^ 110)) ≤ℤ (c.count_of-times.result *ℤ c.number_by_count-by.result)) × ((c.count_of-times.result *ℤ c.number_by_count-by.result) ≤ℤ pos (2 ^ 110))
within c = product_within c.count_of-times.result c.number_by_count-by.result c.count_of-times.ensures.low c.count_of-times.ensures.high (modest c)

held : (times by : ℤ) → FitsSigned w128 times → FitsSigned w128 by → (neg_ℤ (pos (2 ^ 110)) ≤ℤ (times *ℤ by)) × ((times *ℤ by) ≤ℤ pos (2 ^ 110)) → to_z w128 (of_z w128 (to_z w128 (of_z w128 times) *ℤ to_z w128 (of_z w128 by))) ≡ times *ℤ by
held times by one other within =
    let low = within.0 in
    let high = within.1 in
    let whole : FitsSigned w128 (times *ℤ by) = omega (arith, ints, low, high) in
    simp to_z-of_z

is : (c : goal.After-number_by_count-by) → to_z w128 (of_z w128 (to_z w128 (of_z w128 c.count_of-times.result) *ℤ to_z w128 (of_z w128 c.number_by_count-by.result))) ≡ c.count_of-times.result *ℤ c.number_by_count-by.result
is c = held c.count_of-times.result c.number_by_count-by.result (search rules) (search rules) (within c)

pub returns-clause-value : goal.returns-clause-value
returns-clause-value c = is c ∙ change_is c.args.relation.now c.args.cell c.args.one c.args.other c.count_of-times.result c.number_by_count-by.result c.count_of-times.ensures.value (by_is c)

pub returns-clause-low : goal.returns-clause-low
returns-clause-low c = subst (λ (z : ℤ). neg_ℤ (pos (2 ^ 110)) ≤ℤ z) (sym (is c)) (within c).0

pub returns-clause-high : goal.returns-clause-high
returns-clause-high c = subst (λ (z : ℤ). z ≤ℤ pos (2 ^ 110)) (sym (is c)) (within c).1
