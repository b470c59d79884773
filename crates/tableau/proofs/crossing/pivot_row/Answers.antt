use Rattle.std.proofs.Common.{◌≡◌, ◌+◌, ◌<◌, ◌∷◌, ℕ, ℤ, List, [], Err, pos, negsuc, true, ap, subst, arith, rules, to_z, of_z}
use Rattle.std.specs.Int.{w128}
use Rattle.std.specs.List.{list_any}
use Rattle.std.proofs.lemmas.Int.{ints, to_z-of_z}
use Rattle.sdc_base.specs.Forms.{Term, coefficient}
use Rattle.tableau.specs.declared.faults.RowFault.TheVariants as faults
use Rattle.tableau.specs.declared.faults.ExchangeFault.TheVariants as exchange_faults
use Rattle.tableau.specs.Entries.{AreEntriesBelow, crossed_at, crossed_products}
use Rattle.tableau.specs.SparseTables.{width_of}
use Rattle.tableau.specs.Widths.{is_wide}
use Rattle.tableau.proofs.Places.{ascend_of}
use Rattle.tableau.proofs.CrossedEntries.{fault_wide}
use Rattle.tableau.proofs.PivotRows.{pivot_row_is, pivot_row_wide, pivot_den_wide}
use Rattle.tableau.proofs.crossing.pivot_row.Goals as goal

pub crossed_row-requires-clause-pivot : goal.crossed_row-requires-clause-pivot
crossed_row-requires-clause-pivot c = ascend_of 0 (width_of c.args.table.now) c.args.pivot.now.bare.now c.requires.pivot.sparse

pub crossed_row-requires-clause-column : goal.crossed_row-requires-clause-column
crossed_row-requires-clause-column c none =
    absurd (omega (arith, ints, none, c.requires.pivot.above, c.requires.pivot.number_is, c.requires.pivot.same c.args.pivot.now.column (omega (arith, c.requires.column))))

pub returns-in-Ok-clause-ok : goal.returns-in-Ok-clause-ok
returns-in-Ok-clause-ok c =
    let s = c.args.table.now in
    let bare : List Term = c.args.pivot.now.bare.now in
    let width : c.len.result + 1 ≡ width_of s = omega (arith, c.len.ensures) in
    let p_is : to_z w128 (of_z w128 c.args.pivot.now.p) ≡ c.args.pivot.now.p = to_z-of_z w128 c.args.pivot.now.p (search rules) in
    let Made : ℕ → ℤ → ℤ → Type 0 = λ w d p. AreEntriesBelow (w + 1) (crossed_at d (pos 1) (negsuc 0) c.args.pivot.now.column bare ((w, p) ∷ [])) c.in-Ok.made in
    let made : Made (width_of s) c.args.pivot.now.den c.args.pivot.now.p = subst (λ p. Made (width_of s) c.args.pivot.now.den p) p_is (subst (λ w. Made w c.args.pivot.now.den (to_z w128 (of_z w128 c.args.pivot.now.p))) width c.in-Ok.ensures.ok) in
    pivot_row_is s c.args.pivot.now.row c.args.pivot.now.column bare c.args.pivot.now.den c.args.pivot.now.p c.requires.sound c.requires.row c.requires.column c.requires.pivot c.in-Ok.made made

pub returns-in-Err-clause-wide : goal.returns-in-Err-clause-wide
returns-in-Err-clause-wide c i j is =
    let s = c.args.table.now in
    let bare : List Term = c.args.pivot.now.bare.now in
    let width : c.len.result + 1 ≡ width_of s = omega (arith, c.len.ensures) in
    let p_is : to_z w128 (of_z w128 c.args.pivot.now.p) ≡ c.args.pivot.now.p = to_z-of_z w128 c.args.pivot.now.p (search rules) in
    let fault_is : c.at_place.result ≡ exchange_faults.Wide i j = cc in
    let products : ℕ → ℤ → ℤ → ℕ → Type 0 = λ w d p place. list_any is_wide (crossed_products d (pos 1) (negsuc 0) c.args.pivot.now.column place (coefficient ((w, p) ∷ []) place) (coefficient bare place)) ≡ true in
    let wide : (place : ℕ) → c.in-Err.fault ≡ faults.Wide place → (place < c.len.result + 1 + 1) × products (width_of s) c.args.pivot.now.den c.args.pivot.now.p place =
    λ place place_is.
    let told = c.in-Err.ensures.wide place (ap Err place_is) in
    (told.0, subst (λ p. products (width_of s) c.args.pivot.now.den p place) p_is (subst (λ w. products w c.args.pivot.now.den (to_z w128 (of_z w128 c.args.pivot.now.p)) place) width told.1)) in
    fault_wide s c.args.pivot.now.row c.args.pivot.now.column c.args.pivot.now.row c.len-in-Err.result i j c.in-Err.fault (omega (arith, c.len-in-Err.ensures)) c.requires.row c.requires.column (omega (arith, c.requires.row)) (c.at_place.ensures i j fault_is)
    (λ place place_is below. pivot_row_wide s c.args.pivot.now.row c.args.pivot.now.column bare c.args.pivot.now.den c.args.pivot.now.p c.requires.sound c.requires.row c.requires.column c.requires.pivot place below (wide place place_is).1)
    (λ place place_is over.
    let told = wide place place_is in
    let at : place ≡ width_of s = omega (arith, told.0, c.len.ensures, over) in
    pivot_den_wide s c.args.pivot.now.row c.args.pivot.now.column bare c.args.pivot.now.den c.args.pivot.now.p c.requires.sound c.requires.row c.requires.column c.requires.pivot (subst (products (width_of s) c.args.pivot.now.den c.args.pivot.now.p) at told.1))
