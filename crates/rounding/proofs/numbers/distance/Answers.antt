use Rattle.std.proofs.Common.{◌≡◌, ◌^◌, ◌∙◌, ap, arith, rules, ℤ, pos, int_lt, get_or, if◌then◌else◌, FitsSigned}
use Rattle.std.specs.Int.{w128}
use Rattle.std.proofs.lemmas.Int.{ints, to_z-of_z}
use Rattle.sdc_base.specs.Systems.{number_at}
use Rattle.rounding.specs.Extremes.{extreme_numbers}
use Rattle.rounding.specs.Sums.{IsNear}
use Rattle.rounding.proofs.Smallness.{mixed_near}
use Rattle.rounding.proofs.numbers.distance.Goals as goal

number_is : (c : goal.After-result-1) → c.number_by_count-number.result ≡ extreme_numbers c.args.relation.now (number_at c.args.one.now) (number_at c.args.other.now) c.args.cell
number_is c =
    let times : FitsSigned w128 c.count_of-times.result = search rules in
    let one : FitsSigned w128 (get_or c.args.one.now c.args.cell (pos 0)) = search rules in
    let other : FitsSigned w128 (get_or c.args.other.now c.args.cell (pos 0)) = search rules in
    let is : c.number_by_count-number.result ≡ (if int_lt (pos 0) c.count_of-times.result then get_or c.args.one.now c.args.cell (pos 0) else get_or c.args.other.now c.args.cell (pos 0)) = simp to_z-of_z at c.number_by_count-number.ensures in
    is ∙ ap (λ (t : ℤ). if int_lt (pos 0) t then get_or c.args.one.now c.args.cell (pos 0) else get_or c.args.other.now c.args.cell (pos 0)) c.count_of-times.ensures.value

near : (c : goal.After-result-1) → IsNear (10 ^ 22) (extreme_numbers c.args.relation.now (number_at c.args.one.now) (number_at c.args.other.now) c.args.cell) (number_at c.args.truths.now c.args.cell)
near c = mixed_near (10 ^ 22) c.args.relation.now (number_at c.args.one.now) (number_at c.args.other.now) (number_at c.args.truths.now) c.args.cell c.requires.near_one c.requires.near_other

pub returns-clause-value : goal.returns-clause-value
returns-clause-value c = let is = number_is c in let close = near c in omega (arith, ints, is, close.low, close.high)

pub returns-clause-low : goal.returns-clause-low
returns-clause-low c = let is = number_is c in let close = near c in omega (arith, ints, is, close.low, close.high)

pub returns-clause-high : goal.returns-clause-high
returns-clause-high c = let is = number_is c in let close = near c in omega (arith, ints, is, close.low, close.high)

pub overflow_sub-result : goal.overflow_sub-result
overflow_sub-result c = let is = number_is c in let close = near c in omega (arith, ints, is, close.low, close.high)
