use Rattle.std.proofs.Common.{◌≡◌, ◌<◌, List, length, unsigned_abs, slice_index_or, ap, sym, subst, ◌∙◌, arith, rules, FitsSigned, to_z}
use Prim.Native.Nat.{◌∣◌}
use Rattle.std.specs.Int.{w128}
use Rattle.std.proofs.lemmas.Int.{to_z-of_z, to_z_pos}
use Rattle.sdc_base.specs.Forms.{Term}
use Rattle.tableau.specs.OwnRows.{own_den}
use Rattle.tableau.proofs.Divisors.{cast_up, abs_common}
use Rattle.tableau.proofs.LowestRows.{row_divisor_of, lowest_once, lowest_divided}
use Rattle.tableau.proofs.lowest_row.lowest_row.Goals as goal

pub returns-then-by-eq1 : goal.returns-then-by-eq1
returns-then-by-eq1 c =
    let fits : FitsSigned w128 c.den_of-den.result = search rules in
    let den_is : c.den_of-den.result ≡ own_den c.args.width c.args.made = c.den_of-den.ensures ∙ ap (λ (t : List Term). own_den c.args.width t) c.as_slice.ensures in
    let divisor = row_divisor_of c.row_divisor-by.result c.unsigned_abs.result c.den_of-den.result (own_den c.args.width c.args.made) c.as_slice-2.result.now c.args.made c.as_slice-2.ensures (c.unsigned_abs.ensures.value ∙ ap unsigned_abs (to_z-of_z w128 c.den_of-den.result fits)) den_is c.requires.above fits c.row_divisor-by.ensures.divides_whole c.row_divisor-by.ensures.entries c.row_divisor-by.ensures.multiples in
    lowest_once c.args.width c.row_divisor-by.result c.args.made c.if-by-eq1.true c.requires.sparse c.requires.above divisor

pub overflow_cast-by : goal.overflow_cast-by
overflow_cast-by c =
    let fits : FitsSigned w128 c.den_of-den.result = search rules in
    let den_is : c.den_of-den.result ≡ own_den c.args.width c.args.made = c.den_of-den.ensures ∙ ap (λ (t : List Term). own_den c.args.width t) c.as_slice.ensures in
    let divisor = row_divisor_of c.row_divisor-by.result c.unsigned_abs.result c.den_of-den.result (own_den c.args.width c.args.made) c.as_slice-2.result.now c.args.made c.as_slice-2.ensures (c.unsigned_abs.ensures.value ∙ ap unsigned_abs (to_z-of_z w128 c.den_of-den.result fits)) den_is c.requires.above fits c.row_divisor-by.ensures.divides_whole c.row_divisor-by.ensures.entries c.row_divisor-by.ensures.multiples in
    record { sfits = omega (arith, divisor.small) }

pub divided_row-requires-clause-by : goal.divided_row-requires-clause-by
divided_row-requires-clause-by c =
    let fits : FitsSigned w128 c.den_of-den.result = search rules in
    let den_is : c.den_of-den.result ≡ own_den c.args.width c.args.made = c.den_of-den.ensures ∙ ap (λ (t : List Term). own_den c.args.width t) c.as_slice.ensures in
    let divisor = row_divisor_of c.row_divisor-by.result c.unsigned_abs.result c.den_of-den.result (own_den c.args.width c.args.made) c.as_slice-2.result.now c.args.made c.as_slice-2.ensures (c.unsigned_abs.ensures.value ∙ ap unsigned_abs (to_z-of_z w128 c.den_of-den.result fits)) den_is c.requires.above fits c.row_divisor-by.ensures.divides_whole c.row_divisor-by.ensures.entries c.row_divisor-by.ensures.multiples in
    cast_up c.row_divisor-by.result divisor.small divisor.up

pub divided_row-requires-clause-divides : goal.divided_row-requires-clause-divides
divided_row-requires-clause-divides c k d below =
    let fits : FitsSigned w128 c.den_of-den.result = search rules in
    let den_is : c.den_of-den.result ≡ own_den c.args.width c.args.made = c.den_of-den.ensures ∙ ap (λ (t : List Term). own_den c.args.width t) c.as_slice.ensures in
    let divisor = row_divisor_of c.row_divisor-by.result c.unsigned_abs.result c.den_of-den.result (own_den c.args.width c.args.made) c.as_slice-2.result.now c.args.made c.as_slice-2.ensures (c.unsigned_abs.ensures.value ∙ ap unsigned_abs (to_z-of_z w128 c.den_of-den.result fits)) den_is c.requires.above fits c.row_divisor-by.ensures.divides_whole c.row_divisor-by.ensures.entries c.row_divisor-by.ensures.multiples in
    subst (λ n. n ∣ unsigned_abs (slice_index_or c.as_slice-3.result.now k d).1) (sym (abs_common c.row_divisor-by.result divisor.small))
    (subst (λ (t : List Term). c.row_divisor-by.result ∣ unsigned_abs (slice_index_or t k d).1) (sym c.as_slice-3.ensures) (divisor.each k d (subst (λ (t : List Term). k < length t) c.as_slice-3.ensures below)))

pub returns-in-Ok : goal.returns-in-Ok
returns-in-Ok c =
    let fits : FitsSigned w128 c.den_of-den.result = search rules in
    let den_is : c.den_of-den.result ≡ own_den c.args.width c.args.made = c.den_of-den.ensures ∙ ap (λ (t : List Term). own_den c.args.width t) c.as_slice.ensures in
    let divisor = row_divisor_of c.row_divisor-by.result c.unsigned_abs.result c.den_of-den.result (own_den c.args.width c.args.made) c.as_slice-2.result.now c.args.made c.as_slice-2.ensures (c.unsigned_abs.ensures.value ∙ ap unsigned_abs (to_z-of_z w128 c.den_of-den.result fits)) den_is c.requires.above fits c.row_divisor-by.ensures.divides_whole c.row_divisor-by.ensures.entries c.row_divisor-by.ensures.multiples in
    lowest_divided c.args.width c.row_divisor-by.result (to_z w128 c.row_divisor-by.result) c.args.made c.in-Ok.row c.as_slice-3.result.now (to_z_pos w128 c.row_divisor-by.result divisor.small) c.as_slice-3.ensures c.in-Ok.ensures c.requires.sparse c.requires.above divisor
