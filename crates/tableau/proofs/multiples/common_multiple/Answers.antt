use Rattle.std.proofs.Common.{◌≡◌, ◌*◌, ◌*ℤ◌, ◌≤ℤ◌, ℕ, ℤ, pos, unsigned_abs, true, ap, sym, subst, ◌∙◌, arith, rules, FitsSigned, to_z, of_z}
use Prim.Native.Nat.{◌∣◌}
use Rattle.std.specs.Int.{w128}
use Rattle.std.proofs.lemmas.Int.{to_z-of_z, unsigned_abs-mul}
use Rattle.tableau.specs.CommonDivisors.{IsLeastMultiple}
use Rattle.tableau.specs.Widths.{is_wide}
use Rattle.tableau.proofs.Divisors.{common_of, cast_up, cast_divides, abs_common}
use Rattle.tableau.proofs.CrossedEntries.{times_above}
use Rattle.tableau.proofs.OwnRows.{above_of}
use Rattle.tableau.proofs.LeastDens.{least_of, least_one, wide_multiple}
use Rattle.tableau.proofs.multiples.common_multiple.Goals as goal

pub returns-then-other-eq1-clause-least : goal.returns-then-other-eq1-clause-least
returns-then-other-eq1-clause-least c =
    let one_is : to_z w128 (of_z w128 c.args.one) ≡ c.args.one = to_z-of_z w128 c.args.one c.ranges.one in
    let other_is : c.args.other ≡ pos 1 = sym (to_z-of_z w128 c.args.other c.ranges.other) ∙ ap (to_z w128) c.if-other-eq1.true in
    subst (λ (z : ℤ). IsLeastMultiple (unsigned_abs c.args.one) (unsigned_abs c.args.other) (unsigned_abs z)) (sym one_is) (least_one (unsigned_abs c.args.one) (unsigned_abs c.args.other) (ap unsigned_abs other_is))

pub overflow_cast-common : goal.overflow_cast-common
overflow_cast-common c =
    let one_is : to_z w128 (of_z w128 c.args.one) ≡ c.args.one = to_z-of_z w128 c.args.one c.ranges.one in
    let other_is : to_z w128 (of_z w128 c.args.other) ≡ c.args.other = to_z-of_z w128 c.args.other c.ranges.other in
    let g : ℕ = c.gcd-common.result in
    let common = common_of g c.unsigned_abs.result c.unsigned_abs-2.result c.args.one c.args.other c.gcd-common.ensures.greatest (c.unsigned_abs.ensures.value ∙ ap unsigned_abs one_is) (c.unsigned_abs-2.ensures.value ∙ ap unsigned_abs other_is) c.requires.other c.ranges.other in
    record { sfits = omega (arith, common.small) }

pub quotient-part-requires-clause-by : goal.quotient-part-requires-clause-by
quotient-part-requires-clause-by c =
    let one_is : to_z w128 (of_z w128 c.args.one) ≡ c.args.one = to_z-of_z w128 c.args.one c.ranges.one in
    let other_is : to_z w128 (of_z w128 c.args.other) ≡ c.args.other = to_z-of_z w128 c.args.other c.ranges.other in
    let g : ℕ = c.gcd-common.result in
    let common = common_of g c.unsigned_abs.result c.unsigned_abs-2.result c.args.one c.args.other c.gcd-common.ensures.greatest (c.unsigned_abs.ensures.value ∙ ap unsigned_abs one_is) (c.unsigned_abs-2.ensures.value ∙ ap unsigned_abs other_is) c.requires.other c.ranges.other in
    cast_up g common.small common.up

pub quotient-part-requires-clause-divides : goal.quotient-part-requires-clause-divides
quotient-part-requires-clause-divides c =
    let one_is : to_z w128 (of_z w128 c.args.one) ≡ c.args.one = to_z-of_z w128 c.args.one c.ranges.one in
    let other_is : to_z w128 (of_z w128 c.args.other) ≡ c.args.other = to_z-of_z w128 c.args.other c.ranges.other in
    let g : ℕ = c.gcd-common.result in
    let common = common_of g c.unsigned_abs.result c.unsigned_abs-2.result c.args.one c.args.other c.gcd-common.ensures.greatest (c.unsigned_abs.ensures.value ∙ ap unsigned_abs one_is) (c.unsigned_abs-2.ensures.value ∙ ap unsigned_abs other_is) c.requires.other c.ranges.other in
    cast_divides g c.args.one (to_z w128 (of_z w128 c.args.one)) common.small one_is common.first

pub returns-in_default-clause-none : goal.returns-in_default-clause-none
returns-in_default-clause-none c m up of_one of_other =
    let one_is : to_z w128 (of_z w128 c.args.one) ≡ c.args.one = to_z-of_z w128 c.args.one c.ranges.one in
    let other_is : to_z w128 (of_z w128 c.args.other) ≡ c.args.other = to_z-of_z w128 c.args.other c.ranges.other in
    let g : ℕ = c.gcd-common.result in
    let common = common_of g c.unsigned_abs.result c.unsigned_abs-2.result c.args.one c.args.other c.gcd-common.ensures.greatest (c.unsigned_abs.ensures.value ∙ ap unsigned_abs one_is) (c.unsigned_abs-2.ensures.value ∙ ap unsigned_abs other_is) c.requires.other c.ranges.other in
    let part : ℤ = c.quotient-part.result in
    let part_fits : FitsSigned w128 part = search rules in
    let part_is : to_z w128 (of_z w128 part) ≡ part = to_z-of_z w128 part part_fits in
    let times : part *ℤ to_z w128 g ≡ c.args.one = c.quotient-part.ensures ∙ one_is in
    let sizes : unsigned_abs part * g ≡ unsigned_abs c.args.one = ap (λ n. unsigned_abs part * n) (sym (abs_common g common.small)) ∙ sym (unsigned_abs-mul part (to_z w128 g)) ∙ ap unsigned_abs times in
    let least : IsLeastMultiple (unsigned_abs c.args.one) (unsigned_abs c.args.other) (unsigned_abs part * unsigned_abs c.args.other) =
    least_of (unsigned_abs c.args.one) (unsigned_abs c.args.other) g (unsigned_abs part) sizes common.second
    (λ d t of_one of_other. c.gcd-common.ensures.multiples d t (subst (λ n. d ∣ t * n) (sym (c.unsigned_abs.ensures.value ∙ ap unsigned_abs one_is)) of_one) (subst (λ n. d ∣ t * n) (sym (c.unsigned_abs-2.ensures.value ∙ ap unsigned_abs other_is)) of_other)) in
    let product_size : unsigned_abs (part *ℤ c.args.other) ≡ unsigned_abs part * unsigned_abs c.args.other = unsigned_abs-mul part c.args.other in
    let told = c.in_default.ensures.none in
    let wide : is_wide (part *ℤ c.args.other) ≡ true = ap (λ x. is_wide (x *ℤ c.args.other)) (sym part_is) ∙ ap (λ x. is_wide (to_z w128 (of_z w128 part) *ℤ x)) (sym other_is) ∙ told in
    wide_multiple (part *ℤ c.args.other) m up wide (subst (λ n. n ∣ m) (sym product_size) (least.least m of_one of_other))

pub returns-clause-above : goal.returns-clause-above
returns-clause-above c =
    let one_is : to_z w128 (of_z w128 c.args.one) ≡ c.args.one = to_z-of_z w128 c.args.one c.ranges.one in
    let other_is : to_z w128 (of_z w128 c.args.other) ≡ c.args.other = to_z-of_z w128 c.args.other c.ranges.other in
    let g : ℕ = c.gcd-common.result in
    let common = common_of g c.unsigned_abs.result c.unsigned_abs-2.result c.args.one c.args.other c.gcd-common.ensures.greatest (c.unsigned_abs.ensures.value ∙ ap unsigned_abs one_is) (c.unsigned_abs-2.ensures.value ∙ ap unsigned_abs other_is) c.requires.other c.ranges.other in
    let part : ℤ = c.quotient-part.result in
    let part_fits : FitsSigned w128 part = search rules in
    let part_is : to_z w128 (of_z w128 part) ≡ part = to_z-of_z w128 part part_fits in
    let times : part *ℤ to_z w128 g ≡ c.args.one = c.quotient-part.ensures ∙ one_is in
    let sizes : unsigned_abs part * g ≡ unsigned_abs c.args.one = ap (λ n. unsigned_abs part * n) (sym (abs_common g common.small)) ∙ sym (unsigned_abs-mul part (to_z w128 g)) ∙ ap unsigned_abs times in
    let least : IsLeastMultiple (unsigned_abs c.args.one) (unsigned_abs c.args.other) (unsigned_abs part * unsigned_abs c.args.other) =
    least_of (unsigned_abs c.args.one) (unsigned_abs c.args.other) g (unsigned_abs part) sizes common.second
    (λ d t of_one of_other. c.gcd-common.ensures.multiples d t (subst (λ n. d ∣ t * n) (sym (c.unsigned_abs.ensures.value ∙ ap unsigned_abs one_is)) of_one) (subst (λ n. d ∣ t * n) (sym (c.unsigned_abs-2.ensures.value ∙ ap unsigned_abs other_is)) of_other)) in
    let product_size : unsigned_abs (part *ℤ c.args.other) ≡ unsigned_abs part * unsigned_abs c.args.other = unsigned_abs-mul part c.args.other in
    let x : ℤ = c.in-Some.least in
    let x_fits : FitsSigned w128 x = search rules in
    let x_is : x ≡ part *ℤ c.args.other = c.in-Some.ensures.product ∙ ap (λ z. z *ℤ to_z w128 (of_z w128 c.args.other)) part_is ∙ ap (λ z. part *ℤ z) other_is in
    let part_up : pos 1 ≤ℤ part = above_of part (to_z w128 g) c.args.one (cast_up g common.small common.up) times c.requires.one in
    subst (λ z. pos 1 ≤ℤ z) (sym (to_z-of_z w128 x x_fits ∙ x_is)) (times_above part c.args.other part_up c.requires.other)

pub returns-clause-least : goal.returns-clause-least
returns-clause-least c =
    let one_is : to_z w128 (of_z w128 c.args.one) ≡ c.args.one = to_z-of_z w128 c.args.one c.ranges.one in
    let other_is : to_z w128 (of_z w128 c.args.other) ≡ c.args.other = to_z-of_z w128 c.args.other c.ranges.other in
    let g : ℕ = c.gcd-common.result in
    let common = common_of g c.unsigned_abs.result c.unsigned_abs-2.result c.args.one c.args.other c.gcd-common.ensures.greatest (c.unsigned_abs.ensures.value ∙ ap unsigned_abs one_is) (c.unsigned_abs-2.ensures.value ∙ ap unsigned_abs other_is) c.requires.other c.ranges.other in
    let part : ℤ = c.quotient-part.result in
    let part_fits : FitsSigned w128 part = search rules in
    let part_is : to_z w128 (of_z w128 part) ≡ part = to_z-of_z w128 part part_fits in
    let times : part *ℤ to_z w128 g ≡ c.args.one = c.quotient-part.ensures ∙ one_is in
    let sizes : unsigned_abs part * g ≡ unsigned_abs c.args.one = ap (λ n. unsigned_abs part * n) (sym (abs_common g common.small)) ∙ sym (unsigned_abs-mul part (to_z w128 g)) ∙ ap unsigned_abs times in
    let least : IsLeastMultiple (unsigned_abs c.args.one) (unsigned_abs c.args.other) (unsigned_abs part * unsigned_abs c.args.other) =
    least_of (unsigned_abs c.args.one) (unsigned_abs c.args.other) g (unsigned_abs part) sizes common.second
    (λ d t of_one of_other. c.gcd-common.ensures.multiples d t (subst (λ n. d ∣ t * n) (sym (c.unsigned_abs.ensures.value ∙ ap unsigned_abs one_is)) of_one) (subst (λ n. d ∣ t * n) (sym (c.unsigned_abs-2.ensures.value ∙ ap unsigned_abs other_is)) of_other)) in
    let product_size : unsigned_abs (part *ℤ c.args.other) ≡ unsigned_abs part * unsigned_abs c.args.other = unsigned_abs-mul part c.args.other in
    let x : ℤ = c.in-Some.least in
    let x_fits : FitsSigned w128 x = search rules in
    let x_is : x ≡ part *ℤ c.args.other = c.in-Some.ensures.product ∙ ap (λ z. z *ℤ to_z w128 (of_z w128 c.args.other)) part_is ∙ ap (λ z. part *ℤ z) other_is in
    subst (IsLeastMultiple (unsigned_abs c.args.one) (unsigned_abs c.args.other)) (sym (ap unsigned_abs (to_z-of_z w128 x x_fits ∙ x_is) ∙ product_size)) least
