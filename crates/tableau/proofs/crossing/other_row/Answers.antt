use Rattle.std.proofs.Common.{◌≡◌, ◌+◌, ◌<◌, ◌*ℤ◌, ◌≤ℤ◌, ℕ, ℤ, List, Err, pos, length, unsigned_abs, true, ap, sym, subst, ◌∙◌, arith, rules, FitsSigned, to_z, of_z}
use Rattle.std.specs.Int.{w128}
use Rattle.std.specs.List.{list_any}
use Rattle.std.proofs.lemmas.Int.{ints, to_z-of_z}
use Rattle.sdc_base.specs.Forms.{Term, coefficient}
use Rattle.tableau.specs.declared.faults.RowFault.TheVariants as faults
use Rattle.tableau.specs.declared.faults.ExchangeFault.TheVariants as exchange_faults
use Rattle.tableau.specs.Entries.{AreEntriesBelow, crossed_at, crossed_products}
use Rattle.tableau.specs.OwnRows.{own_den}
use Rattle.tableau.specs.NewRows.{IsLowestOf}
use Rattle.tableau.specs.SparseTables.{width_of}
use Rattle.tableau.specs.Widths.{is_wide}
use Rattle.tableau.proofs.Divisors.{common_of, cast_up, cast_divides}
use Rattle.tableau.proofs.Places.{ascend_of}
use Rattle.tableau.proofs.CrossedEntries.{crossed_row_is, crossed_den_up, crossed_wide, behind_wide, fault_wide}
use Rattle.tableau.proofs.crossing.other_row.Goals as goal

pub overflow_cast-common : goal.overflow_cast-common
overflow_cast-common c =
    let s = c.args.table.now in
    let p_is : to_z w128 (of_z w128 c.args.pivot.now.p) ≡ c.args.pivot.now.p = to_z-of_z w128 c.args.pivot.now.p (search rules) in
    let f_is : to_z w128 (of_z w128 c.args.f) ≡ c.args.f = to_z-of_z w128 c.args.f c.ranges.f in
    let common = common_of c.gcd-common.result c.unsigned_abs.result c.unsigned_abs-2.result c.args.f c.args.pivot.now.p c.gcd-common.ensures.greatest (c.unsigned_abs.ensures.value ∙ ap unsigned_abs f_is) (c.unsigned_abs-2.ensures.value ∙ ap unsigned_abs p_is) c.requires.pivot.above (search rules) in
    record { sfits = omega (arith, common.small) }

pub quotient-times-requires-clause-by : goal.quotient-times-requires-clause-by
quotient-times-requires-clause-by c =
    let s = c.args.table.now in
    let p_is : to_z w128 (of_z w128 c.args.pivot.now.p) ≡ c.args.pivot.now.p = to_z-of_z w128 c.args.pivot.now.p (search rules) in
    let f_is : to_z w128 (of_z w128 c.args.f) ≡ c.args.f = to_z-of_z w128 c.args.f c.ranges.f in
    let common = common_of c.gcd-common.result c.unsigned_abs.result c.unsigned_abs-2.result c.args.f c.args.pivot.now.p c.gcd-common.ensures.greatest (c.unsigned_abs.ensures.value ∙ ap unsigned_abs f_is) (c.unsigned_abs-2.ensures.value ∙ ap unsigned_abs p_is) c.requires.pivot.above (search rules) in
    cast_up c.gcd-common.result common.small common.up

pub quotient-times-requires-clause-divides : goal.quotient-times-requires-clause-divides
quotient-times-requires-clause-divides c =
    let s = c.args.table.now in
    let p_is : to_z w128 (of_z w128 c.args.pivot.now.p) ≡ c.args.pivot.now.p = to_z-of_z w128 c.args.pivot.now.p (search rules) in
    let f_is : to_z w128 (of_z w128 c.args.f) ≡ c.args.f = to_z-of_z w128 c.args.f c.ranges.f in
    let common = common_of c.gcd-common.result c.unsigned_abs.result c.unsigned_abs-2.result c.args.f c.args.pivot.now.p c.gcd-common.ensures.greatest (c.unsigned_abs.ensures.value ∙ ap unsigned_abs f_is) (c.unsigned_abs-2.ensures.value ∙ ap unsigned_abs p_is) c.requires.pivot.above (search rules) in
    cast_divides c.gcd-common.result c.args.pivot.now.p (to_z w128 (of_z w128 c.args.pivot.now.p)) common.small p_is common.second

pub quotient-less-requires-clause-by : goal.quotient-less-requires-clause-by
quotient-less-requires-clause-by c =
    let s = c.args.table.now in
    let p_is : to_z w128 (of_z w128 c.args.pivot.now.p) ≡ c.args.pivot.now.p = to_z-of_z w128 c.args.pivot.now.p (search rules) in
    let f_is : to_z w128 (of_z w128 c.args.f) ≡ c.args.f = to_z-of_z w128 c.args.f c.ranges.f in
    let common = common_of c.gcd-common.result c.unsigned_abs.result c.unsigned_abs-2.result c.args.f c.args.pivot.now.p c.gcd-common.ensures.greatest (c.unsigned_abs.ensures.value ∙ ap unsigned_abs f_is) (c.unsigned_abs-2.ensures.value ∙ ap unsigned_abs p_is) c.requires.pivot.above (search rules) in
    cast_up c.gcd-common.result common.small common.up

pub quotient-less-requires-clause-divides : goal.quotient-less-requires-clause-divides
quotient-less-requires-clause-divides c =
    let s = c.args.table.now in
    let p_is : to_z w128 (of_z w128 c.args.pivot.now.p) ≡ c.args.pivot.now.p = to_z-of_z w128 c.args.pivot.now.p (search rules) in
    let f_is : to_z w128 (of_z w128 c.args.f) ≡ c.args.f = to_z-of_z w128 c.args.f c.ranges.f in
    let common = common_of c.gcd-common.result c.unsigned_abs.result c.unsigned_abs-2.result c.args.f c.args.pivot.now.p c.gcd-common.ensures.greatest (c.unsigned_abs.ensures.value ∙ ap unsigned_abs f_is) (c.unsigned_abs-2.ensures.value ∙ ap unsigned_abs p_is) c.requires.pivot.above (search rules) in
    cast_divides c.gcd-common.result c.args.f (to_z w128 (of_z w128 c.args.f)) common.small f_is common.first

pub crossed_row-requires-clause-pivot : goal.crossed_row-requires-clause-pivot
crossed_row-requires-clause-pivot c = ascend_of 0 (width_of c.args.table.now) c.args.pivot.now.bare.now c.requires.pivot.sparse

pub crossed_row-requires-clause-own : goal.crossed_row-requires-clause-own
crossed_row-requires-clause-own c = ascend_of 0 (length c.args.table.now.others.items + 2) c.row_of-own.result.now c.row_of-own.ensures.sparse

pub crossed_row-requires-clause-column : goal.crossed_row-requires-clause-column
crossed_row-requires-clause-column c none =
    absurd (omega (arith, ints, none, c.requires.pivot.above, c.requires.pivot.number_is, c.requires.pivot.same c.args.pivot.now.column (omega (arith, c.requires.column))))

pub returns-in-Err-clause-wide : goal.returns-in-Err-clause-wide
returns-in-Err-clause-wide c i j is =
    let s = c.args.table.now in
    let p_is : to_z w128 (of_z w128 c.args.pivot.now.p) ≡ c.args.pivot.now.p = to_z-of_z w128 c.args.pivot.now.p (search rules) in
    let f_is : to_z w128 (of_z w128 c.args.f) ≡ c.args.f = to_z-of_z w128 c.args.f c.ranges.f in
    let common = common_of c.gcd-common.result c.unsigned_abs.result c.unsigned_abs-2.result c.args.f c.args.pivot.now.p c.gcd-common.ensures.greatest (c.unsigned_abs.ensures.value ∙ ap unsigned_abs f_is) (c.unsigned_abs-2.ensures.value ∙ ap unsigned_abs p_is) c.requires.pivot.above (search rules) in
    let g : ℤ = to_z w128 c.gcd-common.result in
    let g_up : pos 1 ≤ℤ g = cast_up c.gcd-common.result common.small common.up in
    let times : ℤ = c.quotient-times.result in
    let less : ℤ = c.quotient-less.result in
    let times_fits : FitsSigned w128 times = search rules in
    let less_fits : FitsSigned w128 less = search rules in
    let times_is : to_z w128 (of_z w128 times) ≡ times = to_z-of_z w128 times times_fits in
    let less_is : to_z w128 (of_z w128 less) ≡ less = to_z-of_z w128 less less_fits in
    let p_times : times *ℤ g ≡ c.args.pivot.now.p = c.quotient-times.ensures ∙ p_is in
    let f_times : less *ℤ g ≡ c.args.f = c.quotient-less.ensures ∙ f_is in
    let own : List Term = c.row_of-own.result.now in
    let bare : List Term = c.args.pivot.now.bare.now in
    let width : c.len.result + 1 ≡ width_of s = omega (arith, c.len.ensures) in
    let fault_is : c.at_place.result ≡ exchange_faults.Wide i j = cc in
    let products : ℤ → ℤ → ℤ → ℕ → Type 0 = λ d t l place. list_any is_wide (crossed_products d t l c.args.pivot.now.column place (coefficient own place) (coefficient bare place)) ≡ true in
    let wide : (place : ℕ) → c.in-Err.fault ≡ faults.Wide place → (place < c.len.result + 1 + 1) × products c.args.pivot.now.den times less place =
    λ place place_is.
    let told = c.in-Err.ensures.wide place (ap Err place_is) in
    (told.0, subst (λ t. products c.args.pivot.now.den t less place) times_is (subst (λ l. products c.args.pivot.now.den (to_z w128 (of_z w128 times)) l place) less_is told.1)) in
    fault_wide s c.args.pivot.now.row c.args.pivot.now.column c.args.k c.len-in-Err.result i j c.in-Err.fault (omega (arith, c.len-in-Err.ensures)) c.requires.row c.requires.column c.requires.within (c.at_place.ensures i j fault_is)
    (λ place place_is below. crossed_wide s c.args.pivot.now.row c.args.pivot.now.column c.args.k bare own c.args.pivot.now.den c.args.pivot.now.p c.args.f times less g c.requires.sound c.requires.row c.requires.column c.requires.within c.requires.other c.requires.pivot c.row_of-own.ensures.row_at c.requires.number p_times f_times g_up place below (wide place place_is).1)
    (λ place place_is over.
    let told = wide place place_is in
    let at : place ≡ width_of s = omega (arith, told.0, c.len.ensures, over) in
    behind_wide s c.args.pivot.now.row c.args.pivot.now.column c.args.k bare own c.args.pivot.now.den c.args.pivot.now.p c.args.f times less g c.requires.sound c.requires.row c.requires.column c.requires.within c.requires.other c.requires.pivot c.row_of-own.ensures.row_at c.requires.number p_times f_times g_up (subst (products c.args.pivot.now.den times less) at told.1))

pub lowest_row-requires-clause-sparse : goal.lowest_row-requires-clause-sparse
lowest_row-requires-clause-sparse c = c.in-Ok.ensures.ok.sparse

pub lowest_row-requires-clause-above : goal.lowest_row-requires-clause-above
lowest_row-requires-clause-above c =
    let s = c.args.table.now in
    let p_is : to_z w128 (of_z w128 c.args.pivot.now.p) ≡ c.args.pivot.now.p = to_z-of_z w128 c.args.pivot.now.p (search rules) in
    let f_is : to_z w128 (of_z w128 c.args.f) ≡ c.args.f = to_z-of_z w128 c.args.f c.ranges.f in
    let common = common_of c.gcd-common.result c.unsigned_abs.result c.unsigned_abs-2.result c.args.f c.args.pivot.now.p c.gcd-common.ensures.greatest (c.unsigned_abs.ensures.value ∙ ap unsigned_abs f_is) (c.unsigned_abs-2.ensures.value ∙ ap unsigned_abs p_is) c.requires.pivot.above (search rules) in
    let g : ℤ = to_z w128 c.gcd-common.result in
    let g_up : pos 1 ≤ℤ g = cast_up c.gcd-common.result common.small common.up in
    let times : ℤ = c.quotient-times.result in
    let less : ℤ = c.quotient-less.result in
    let times_fits : FitsSigned w128 times = search rules in
    let less_fits : FitsSigned w128 less = search rules in
    let times_is : to_z w128 (of_z w128 times) ≡ times = to_z-of_z w128 times times_fits in
    let less_is : to_z w128 (of_z w128 less) ≡ less = to_z-of_z w128 less less_fits in
    let p_times : times *ℤ g ≡ c.args.pivot.now.p = c.quotient-times.ensures ∙ p_is in
    let f_times : less *ℤ g ≡ c.args.f = c.quotient-less.ensures ∙ f_is in
    let own : List Term = c.row_of-own.result.now in
    let bare : List Term = c.args.pivot.now.bare.now in
    let width : c.len.result + 1 ≡ width_of s = omega (arith, c.len.ensures) in
    let at : ℤ → ℤ → ℤ → ℕ → ℤ = λ d t l. crossed_at d t l c.args.pivot.now.column bare own in
    let numbers_are : at c.args.pivot.now.den (to_z w128 (of_z w128 times)) (to_z w128 (of_z w128 less)) ≡ at c.args.pivot.now.den times less = ap (λ t. at c.args.pivot.now.den t (to_z w128 (of_z w128 less))) times_is ∙ ap (at c.args.pivot.now.den times) less_is in
    let den_here : own_den (c.len.result + 1) c.in-Ok.whole ≡ at c.args.pivot.now.den times less (width_of s) = c.in-Ok.ensures.ok.same (c.len.result + 1) (omega arith) ∙ ap (λ (n : ℕ → ℤ). n (c.len.result + 1)) numbers_are ∙ ap (at c.args.pivot.now.den times less) width in
    subst (λ x. pos 1 ≤ℤ x) (sym den_here) (crossed_den_up s c.args.pivot.now.row c.args.pivot.now.column c.args.k bare own c.args.pivot.now.den c.args.pivot.now.p c.args.f times less g c.requires.sound c.requires.row c.requires.column c.requires.within c.requires.other c.requires.pivot c.row_of-own.ensures.row_at c.requires.number p_times f_times g_up)

pub returns-in-Ok-lowest_row-clause-ok : goal.returns-in-Ok-lowest_row-clause-ok
returns-in-Ok-lowest_row-clause-ok c =
    let s = c.args.table.now in
    let p_is : to_z w128 (of_z w128 c.args.pivot.now.p) ≡ c.args.pivot.now.p = to_z-of_z w128 c.args.pivot.now.p (search rules) in
    let f_is : to_z w128 (of_z w128 c.args.f) ≡ c.args.f = to_z-of_z w128 c.args.f c.ranges.f in
    let common = common_of c.gcd-common.result c.unsigned_abs.result c.unsigned_abs-2.result c.args.f c.args.pivot.now.p c.gcd-common.ensures.greatest (c.unsigned_abs.ensures.value ∙ ap unsigned_abs f_is) (c.unsigned_abs-2.ensures.value ∙ ap unsigned_abs p_is) c.requires.pivot.above (search rules) in
    let g : ℤ = to_z w128 c.gcd-common.result in
    let g_up : pos 1 ≤ℤ g = cast_up c.gcd-common.result common.small common.up in
    let times : ℤ = c.quotient-times.result in
    let less : ℤ = c.quotient-less.result in
    let times_fits : FitsSigned w128 times = search rules in
    let less_fits : FitsSigned w128 less = search rules in
    let times_is : to_z w128 (of_z w128 times) ≡ times = to_z-of_z w128 times times_fits in
    let less_is : to_z w128 (of_z w128 less) ≡ less = to_z-of_z w128 less less_fits in
    let p_times : times *ℤ g ≡ c.args.pivot.now.p = c.quotient-times.ensures ∙ p_is in
    let f_times : less *ℤ g ≡ c.args.f = c.quotient-less.ensures ∙ f_is in
    let own : List Term = c.row_of-own.result.now in
    let bare : List Term = c.args.pivot.now.bare.now in
    let width : c.len.result + 1 ≡ width_of s = omega (arith, c.len.ensures) in
    let at : ℤ → ℤ → ℤ → ℕ → ℤ = λ d t l. crossed_at d t l c.args.pivot.now.column bare own in
    let numbers_are : at c.args.pivot.now.den (to_z w128 (of_z w128 times)) (to_z w128 (of_z w128 less)) ≡ at c.args.pivot.now.den times less = ap (λ t. at c.args.pivot.now.den t (to_z w128 (of_z w128 less))) times_is ∙ ap (at c.args.pivot.now.den times) less_is in
    let made : AreEntriesBelow (width_of s + 1) (at c.args.pivot.now.den times less) c.in-Ok.whole =
    subst (λ n. AreEntriesBelow (n + 1) (at c.args.pivot.now.den times less) c.in-Ok.whole) width (subst (λ (n : ℕ → ℤ). AreEntriesBelow (c.len.result + 1 + 1) n c.in-Ok.whole) numbers_are c.in-Ok.ensures.ok) in
    let up : pos 1 ≤ℤ own_den (width_of s) c.in-Ok.whole = subst (λ x. pos 1 ≤ℤ x) (sym (made.same (width_of s) (omega arith))) (crossed_den_up s c.args.pivot.now.row c.args.pivot.now.column c.args.k bare own c.args.pivot.now.den c.args.pivot.now.p c.args.f times less g c.requires.sound c.requires.row c.requires.column c.requires.within c.requires.other c.requires.pivot c.row_of-own.ensures.row_at c.requires.number p_times f_times g_up) in
    crossed_row_is s c.args.pivot.now.row c.args.pivot.now.column c.args.k bare own c.args.pivot.now.den c.args.pivot.now.p c.args.f times less g c.requires.sound c.requires.row c.requires.column c.requires.within c.requires.other c.requires.pivot c.row_of-own.ensures.row_at c.requires.number p_times f_times c.in-Ok.whole c.in-Ok-lowest_row.made made up
    (subst (λ n. IsLowestOf n c.in-Ok.whole c.in-Ok-lowest_row.made) width c.in-Ok-lowest_row.ensures)
