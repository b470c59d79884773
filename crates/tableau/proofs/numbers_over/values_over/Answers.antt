use Rattle.std.proofs.Common.{◌≡◌, ◌+◌, ◌-◌, ◌<◌, ◌≤ℤ◌, ◌*ℤ◌, ℕ, ℤ, List, [], pos, length, map, take, slice_index_or, unsigned_abs, true, ap, sym, subst, ◌∙◌, arith, rules, FitsSigned, to_z, of_z}
use Prim.Native.Nat.{◌∣◌}
use Rattle.std.specs.Int.{w128}
use Rattle.std.proofs.lemmas.Int.{to_z-of_z}
use Rattle.sdc_base.specs.Forms.{Term, coefficient}
use Rattle.sdc_base.specs.Systems.{number_at}
use Rattle.tableau.specs.Entries.{IsSparse}
use Rattle.tableau.specs.OwnRows.{own_den, factor_of, row_over}
use Rattle.tableau.specs.NewRows.{placed_lists}
use Rattle.tableau.specs.Widths.{is_wide}
use Rattle.tableau.proofs.NewRows.{length-placed}
use Rattle.tableau.proofs.OwnRows.{over_at}
use Rattle.tableau.proofs.LeastDens.{placed_here, values_more}
use Rattle.tableau.proofs.numbers_over.values_over.Goals as goal

pub loop-k-init : goal.loop-k-init
loop-k-init c = c.in-Ok.ensures.items

pub factor-requires-clause-above : goal.factor-requires-clause-above
factor-requires-clause-above c = subst (λ z. pos 1 ≤ℤ z) (sym (to_z-of_z w128 c.args.den c.ranges.den)) c.requires.den.above

pub value_of-number-requires-clause-sparse : goal.value_of-number-requires-clause-sparse
value_of-number-requires-clause-sparse c =
    let lists : List (List Term) = placed_lists c.args.olds.now c.args.news.now in
    let k_at : ℕ = c.loop-k.k in
    let inside : k_at < length c.args.news.now = omega (arith, c.loop-k-test.true, c.requires.count) in
    let within : k_at < length lists = omega (arith, length-placed c.args.olds.now c.args.news.now) in
    let list_is : c.placed-own.result.now ≡ slice_index_or lists k_at [] = placed_here c.args.olds.now c.args.news.now k_at c.placed-own.result.now c.index-olds-k.result c.index-news-k.result inside c.requires.long c.index-olds-k.is c.index-news-k.is c.placed-own.ensures in
    subst (λ (t : List Term). IsSparse 0 (c.args.width + 1) t) (sym list_is) (c.requires.dens.sparse k_at within)

pub value_of-number-requires-clause-above : goal.value_of-number-requires-clause-above
value_of-number-requires-clause-above c =
    let lists : List (List Term) = placed_lists c.args.olds.now c.args.news.now in
    let k_at : ℕ = c.loop-k.k in
    let inside : k_at < length c.args.news.now = omega (arith, c.loop-k-test.true, c.requires.count) in
    let within : k_at < length lists = omega (arith, length-placed c.args.olds.now c.args.news.now) in
    let list_is : c.placed-own.result.now ≡ slice_index_or lists k_at [] = placed_here c.args.olds.now c.args.news.now k_at c.placed-own.result.now c.index-olds-k.result c.index-news-k.result inside c.requires.long c.index-olds-k.is c.index-news-k.is c.placed-own.ensures in
    subst (λ (t : List Term). pos 1 ≤ℤ own_den c.args.width t) (sym list_is) (c.requires.dens.above k_at within)

pub factor-requires-clause-sparse : goal.factor-requires-clause-sparse
factor-requires-clause-sparse c =
    let lists : List (List Term) = placed_lists c.args.olds.now c.args.news.now in
    let k_at : ℕ = c.loop-k.k in
    let inside : k_at < length c.args.news.now = omega (arith, c.loop-k-test.true, c.requires.count) in
    let within : k_at < length lists = omega (arith, length-placed c.args.olds.now c.args.news.now) in
    let list_is : c.placed-own.result.now ≡ slice_index_or lists k_at [] = placed_here c.args.olds.now c.args.news.now k_at c.placed-own.result.now c.index-olds-k.result c.index-news-k.result inside c.requires.long c.index-olds-k.is c.index-news-k.is c.placed-own.ensures in
    subst (λ (t : List Term). IsSparse 0 (c.args.width + 1) t) (sym list_is) (c.requires.dens.sparse k_at within)

pub factor-requires-clause-own : goal.factor-requires-clause-own
factor-requires-clause-own c =
    let lists : List (List Term) = placed_lists c.args.olds.now c.args.news.now in
    let k_at : ℕ = c.loop-k.k in
    let inside : k_at < length c.args.news.now = omega (arith, c.loop-k-test.true, c.requires.count) in
    let within : k_at < length lists = omega (arith, length-placed c.args.olds.now c.args.news.now) in
    let list_is : c.placed-own.result.now ≡ slice_index_or lists k_at [] = placed_here c.args.olds.now c.args.news.now k_at c.placed-own.result.now c.index-olds-k.result c.index-news-k.result inside c.requires.long c.index-olds-k.is c.index-news-k.is c.placed-own.ensures in
    subst (λ (t : List Term). pos 1 ≤ℤ own_den c.args.width t) (sym list_is) (c.requires.dens.above k_at within)

pub factor-requires-clause-divides : goal.factor-requires-clause-divides
factor-requires-clause-divides c =
    let lists : List (List Term) = placed_lists c.args.olds.now c.args.news.now in
    let k_at : ℕ = c.loop-k.k in
    let inside : k_at < length c.args.news.now = omega (arith, c.loop-k-test.true, c.requires.count) in
    let within : k_at < length lists = omega (arith, length-placed c.args.olds.now c.args.news.now) in
    let list_is : c.placed-own.result.now ≡ slice_index_or lists k_at [] = placed_here c.args.olds.now c.args.news.now k_at c.placed-own.result.now c.index-olds-k.result c.index-news-k.result inside c.requires.long c.index-olds-k.is c.index-news-k.is c.placed-own.ensures in
    subst (λ (z : ℤ). unsigned_abs (own_den c.args.width c.placed-own.result.now) ∣ unsigned_abs z) (sym (to_z-of_z w128 c.args.den c.ranges.den)) (subst (λ (t : List Term). unsigned_abs (own_den c.args.width t) ∣ unsigned_abs c.args.den) (sym list_is) (c.requires.den.divide k_at within))

pub returns-in_default-number_over-clause-wide : goal.returns-in_default-number_over-clause-wide
returns-in_default-number_over-clause-wide c k j is =
    let lists : List (List Term) = placed_lists c.args.olds.now c.args.news.now in
    let k_at : ℕ = c.loop-k.k in
    let inside : k_at < length c.args.news.now = omega (arith, c.loop-k-test.true, c.requires.count) in
    let within : k_at < length lists = omega (arith, length-placed c.args.olds.now c.args.news.now) in
    let list_is : c.placed-own.result.now ≡ slice_index_or lists k_at [] = placed_here c.args.olds.now c.args.news.now k_at c.placed-own.result.now c.index-olds-k.result c.index-news-k.result inside c.requires.long c.index-olds-k.is c.index-news-k.is c.placed-own.ensures in
    let d_is : to_z w128 (of_z w128 c.args.den) ≡ c.args.den = to_z-of_z w128 c.args.den c.ranges.den in
    let own : List Term = slice_index_or lists k_at [] in
    let d : ℤ = to_z w128 (of_z w128 c.args.den) in
    let w : ℕ = c.args.width in
    let x : ℤ = c.value_of-number.result in
    let x_fits : FitsSigned w128 x = search rules in
    let f : ℤ = c.factor.result in
    let f_fits : FitsSigned w128 f = search rules in
    let product : to_z w128 (of_z w128 x) *ℤ to_z w128 (of_z w128 f) ≡ number_at (row_over d w own) (w - 1) =
    ap (λ z. z *ℤ to_z w128 (of_z w128 f)) (to_z-of_z w128 x x_fits ∙ c.value_of-number.ensures ∙ ap (λ (t : List Term). coefficient t (w - 1)) list_is) ∙ ap (λ z. coefficient own (w - 1) *ℤ z) (to_z-of_z w128 f f_fits ∙ c.factor.ensures ∙ ap (λ (t : List Term). factor_of d w t) list_is) ∙ sym (over_at d w (w - 1) own (omega (arith, c.requires.width))) in
    let k_is : c.loop-k.k ≡ k = cc in
    let j_is : c.args.width - 1 ≡ j = cc in
    let wide : is_wide (number_at (row_over c.args.den w own) (w - 1)) ≡ true = ap (λ z. is_wide (number_at (row_over z w own) (w - 1))) (sym d_is) ∙ ap is_wide (sym product) ∙ c.in_default-number_over.ensures.none in
    (omega (arith, k_is, c.loop-k-test.true), sym j_is, subst (λ n. is_wide (number_at (row_over c.args.den w (slice_index_or lists n [])) j) ≡ true) k_is (subst (λ n. is_wide (number_at (row_over c.args.den w own) n) ≡ true) j_is wide))

pub loop-k-preserved : goal.loop-k-preserved
loop-k-preserved c =
    let lists : List (List Term) = placed_lists c.args.olds.now c.args.news.now in
    let k_at : ℕ = c.loop-k.k in
    let inside : k_at < length c.args.news.now = omega (arith, c.loop-k-test.true, c.requires.count) in
    let within : k_at < length lists = omega (arith, length-placed c.args.olds.now c.args.news.now) in
    let list_is : c.placed-own.result.now ≡ slice_index_or lists k_at [] = placed_here c.args.olds.now c.args.news.now k_at c.placed-own.result.now c.index-olds-k.result c.index-news-k.result inside c.requires.long c.index-olds-k.is c.index-news-k.is c.placed-own.ensures in
    let own : List Term = slice_index_or lists k_at [] in
    let d : ℤ = to_z w128 (of_z w128 c.args.den) in
    let w : ℕ = c.args.width in
    let x : ℤ = c.value_of-number.result in
    let x_fits : FitsSigned w128 x = search rules in
    let f : ℤ = c.factor.result in
    let f_fits : FitsSigned w128 f = search rules in
    let product : to_z w128 (of_z w128 x) *ℤ to_z w128 (of_z w128 f) ≡ number_at (row_over d w own) (w - 1) =
    ap (λ z. z *ℤ to_z w128 (of_z w128 f)) (to_z-of_z w128 x x_fits ∙ c.value_of-number.ensures ∙ ap (λ (t : List Term). coefficient t (w - 1)) list_is) ∙ ap (λ z. coefficient own (w - 1) *ℤ z) (to_z-of_z w128 f f_fits ∙ c.factor.ensures ∙ ap (λ (t : List Term). factor_of d w t) list_is) ∙ sym (over_at d w (w - 1) own (omega (arith, c.requires.width))) in
    let over : ℤ = c.in-Some.over in
    let over_fits : FitsSigned w128 over = search rules in
    values_more d w k_at lists c.loop-k.values.items c.push.new.self.items (to_z w128 (of_z w128 over)) within c.loop-k.invariant (to_z-of_z w128 over over_fits ∙ c.in-Some.ensures.over ∙ product) c.in-Ok-push.ensures.items

pub returns-clause-ok : goal.returns-clause-ok
returns-clause-ok c =
    let lists : List (List Term) = placed_lists c.args.olds.now c.args.news.now in
    let value : List ℤ → ℤ = λ row. number_at row (c.args.width - 1) in
    let last : c.loop-k.k ≡ c.args.count = omega (arith, c.loop-k-test.false, c.loop-k.auto.k-end) in
    c.loop-k.invariant ∙ ap (λ n. map value (map (row_over (to_z w128 (of_z w128 c.args.den)) c.args.width) (take n lists))) last ∙ ap (λ z. map value (map (row_over z c.args.width) (take c.args.count lists))) (to_z-of_z w128 c.args.den c.ranges.den)
