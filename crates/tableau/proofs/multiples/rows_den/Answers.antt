use Rattle.std.proofs.Common.{◌≡◌, ◌+◌, ◌<◌, ◌≤ℤ◌, ℕ, ℤ, List, [], pos, length, slice_index_or, ap, sym, subst, ◌∙◌, arith, rules, FitsSigned, to_z, of_z}
use Rattle.std.specs.Int.{w128}
use Rattle.std.proofs.lemmas.Int.{to_z-of_z}
use Rattle.sdc_base.specs.Forms.{Term}
use Rattle.tableau.specs.Entries.{IsSparse}
use Rattle.tableau.specs.OwnRows.{own_den}
use Rattle.tableau.specs.NewRows.{placed_lists}
use Rattle.tableau.proofs.NewRows.{length-placed}
use Rattle.tableau.proofs.LeastDens.{IsDenBefore, den_none, den_more, den_whole, den_wide_before, placed_here}
use Rattle.tableau.proofs.multiples.rows_den.Goals as goal

pub loop-k-init : goal.loop-k-init
loop-k-init c = den_none c.args.width (placed_lists c.args.olds.now c.args.news.now)

pub den_of-own-requires-clause-sparse : goal.den_of-own-requires-clause-sparse
den_of-own-requires-clause-sparse c =
    let lists : List (List Term) = placed_lists c.args.olds.now c.args.news.now in
    let k : ℕ = c.loop-k.k in
    let within : k < length lists = omega (arith, length-placed c.args.olds.now c.args.news.now, c.loop-k-test.true) in
    let list_is : c.placed.result.now ≡ slice_index_or lists k [] = placed_here c.args.olds.now c.args.news.now k c.placed.result.now c.index-olds-k.result c.index-news-k.result c.loop-k-test.true c.requires.long c.index-olds-k.is c.index-news-k.is c.placed.ensures in
    subst (λ (t : List Term). IsSparse 0 (c.args.width + 1) t) (sym list_is) (c.requires.dens.sparse k within)

pub den_of-own-requires-clause-above : goal.den_of-own-requires-clause-above
den_of-own-requires-clause-above c =
    let lists : List (List Term) = placed_lists c.args.olds.now c.args.news.now in
    let k : ℕ = c.loop-k.k in
    let within : k < length lists = omega (arith, length-placed c.args.olds.now c.args.news.now, c.loop-k-test.true) in
    let list_is : c.placed.result.now ≡ slice_index_or lists k [] = placed_here c.args.olds.now c.args.news.now k c.placed.result.now c.index-olds-k.result c.index-news-k.result c.loop-k-test.true c.requires.long c.index-olds-k.is c.index-news-k.is c.placed.ensures in
    subst (λ (t : List Term). pos 1 ≤ℤ own_den c.args.width t) (sym list_is) (c.requires.dens.above k within)

pub common_multiple-requires-clause-one : goal.common_multiple-requires-clause-one
common_multiple-requires-clause-one c = c.loop-k.invariant.above

pub common_multiple-requires-clause-other : goal.common_multiple-requires-clause-other
common_multiple-requires-clause-other c =
    let lists : List (List Term) = placed_lists c.args.olds.now c.args.news.now in
    let k : ℕ = c.loop-k.k in
    let within : k < length lists = omega (arith, length-placed c.args.olds.now c.args.news.now, c.loop-k-test.true) in
    let list_is : c.placed.result.now ≡ slice_index_or lists k [] = placed_here c.args.olds.now c.args.news.now k c.placed.result.now c.index-olds-k.result c.index-news-k.result c.loop-k-test.true c.requires.long c.index-olds-k.is c.index-news-k.is c.placed.ensures in
    let own : ℤ = c.den_of-own.result in
    let own_fits : FitsSigned w128 own = search rules in
    let own_here : to_z w128 (of_z w128 own) ≡ own_den c.args.width (slice_index_or lists k []) = to_z-of_z w128 own own_fits ∙ c.den_of-own.ensures ∙ ap (λ (t : List Term). own_den c.args.width t) list_is in
    let before : IsDenBefore c.args.width lists k (to_z w128 c.loop-k.den-bits) = c.loop-k.invariant in
    subst (λ z. pos 1 ≤ℤ z) (sym own_here) (c.requires.dens.above k within)

pub returns-in_default-clause-none : goal.returns-in_default-clause-none
returns-in_default-clause-none c =
    let lists : List (List Term) = placed_lists c.args.olds.now c.args.news.now in
    let k : ℕ = c.loop-k.k in
    let within : k < length lists = omega (arith, length-placed c.args.olds.now c.args.news.now, c.loop-k-test.true) in
    let list_is : c.placed.result.now ≡ slice_index_or lists k [] = placed_here c.args.olds.now c.args.news.now k c.placed.result.now c.index-olds-k.result c.index-news-k.result c.loop-k-test.true c.requires.long c.index-olds-k.is c.index-news-k.is c.placed.ensures in
    let own : ℤ = c.den_of-own.result in
    let own_fits : FitsSigned w128 own = search rules in
    let own_here : to_z w128 (of_z w128 own) ≡ own_den c.args.width (slice_index_or lists k []) = to_z-of_z w128 own own_fits ∙ c.den_of-own.ensures ∙ ap (λ (t : List Term). own_den c.args.width t) list_is in
    let before : IsDenBefore c.args.width lists k (to_z w128 c.loop-k.den-bits) = c.loop-k.invariant in
    den_wide_before c.args.width lists k (to_z w128 c.loop-k.den-bits) (to_z w128 (of_z w128 own)) within before own_here c.in_default.ensures.none

pub loop-k-preserved : goal.loop-k-preserved
loop-k-preserved c =
    let lists : List (List Term) = placed_lists c.args.olds.now c.args.news.now in
    let k : ℕ = c.loop-k.k in
    let within : k < length lists = omega (arith, length-placed c.args.olds.now c.args.news.now, c.loop-k-test.true) in
    let list_is : c.placed.result.now ≡ slice_index_or lists k [] = placed_here c.args.olds.now c.args.news.now k c.placed.result.now c.index-olds-k.result c.index-news-k.result c.loop-k-test.true c.requires.long c.index-olds-k.is c.index-news-k.is c.placed.ensures in
    let own : ℤ = c.den_of-own.result in
    let own_fits : FitsSigned w128 own = search rules in
    let own_here : to_z w128 (of_z w128 own) ≡ own_den c.args.width (slice_index_or lists k []) = to_z-of_z w128 own own_fits ∙ c.den_of-own.ensures ∙ ap (λ (t : List Term). own_den c.args.width t) list_is in
    let before : IsDenBefore c.args.width lists k (to_z w128 c.loop-k.den-bits) = c.loop-k.invariant in
    let next : ℤ = c.in-Some.least in
    let next_fits : FitsSigned w128 next = search rules in
    subst (IsDenBefore c.args.width lists (k + 1)) (sym (to_z-of_z w128 next next_fits)) (den_more c.args.width lists k (to_z w128 c.loop-k.den-bits) (to_z w128 (of_z w128 own)) next before own_here c.in-Some.ensures.least c.in-Some.ensures.above)

pub returns-clause-least : goal.returns-clause-least
returns-clause-least c =
    let lists : List (List Term) = placed_lists c.args.olds.now c.args.news.now in
    den_whole c.args.width lists c.loop-k.k (to_z w128 c.loop-k.den-bits) (omega (arith, length-placed c.args.olds.now c.args.news.now, c.loop-k-test.false, c.loop-k.auto.k-end)) c.loop-k.invariant
