use Rattle.std.proofs.Common.{◌≡◌, ◌+◌, ◌<◌, ◌*ℤ◌, ◌++◌, ◌∷◌, [], ℤ, List, pos, take, unsigned_abs, true, ap, sym, subst, ◌∙◌, arith, rules, FitsSigned, to_z, of_z}
use Prim.Native.Nat.{◌∣◌}
use Rattle.std.specs.Int.{w128}
use Rattle.std.proofs.lemmas.Int.{to_z-of_z}
use Rattle.std.proofs.lemmas.List.{take_more, take_all}
use Rattle.sdc_base.specs.Forms.{Term, coefficient}
use Rattle.sdc_base.specs.Systems.{number_at}
use Rattle.tableau.specs.OwnRows.{own_den, row_over}
use Rattle.tableau.specs.Widths.{is_wide}
use Rattle.tableau.proofs.OwnRows.{over_at, length-row_over}
use Rattle.tableau.proofs.Places.{ascend_of, from_start}
use Rattle.tableau.proofs.numbers_over.row_numbers.Goals as goal

pub factor-times-requires-clause-divides : goal.factor-times-requires-clause-divides
factor-times-requires-clause-divides c = subst (λ (z : ℤ). unsigned_abs (own_den c.args.width c.args.own.now) ∣ unsigned_abs z) (sym (to_z-of_z w128 c.args.den c.ranges.den)) c.requires.divides

pub loop-j-init : goal.loop-j-init
loop-j-init c = record { from = from_start c.args.own.now (ascend_of 0 (c.args.width + 1) c.args.own.now c.requires.sparse); numbers = c.in-Ok.ensures.items }

pub number_here-number-requires : goal.number_here-number-requires
number_here-number-requires c = c.loop-j.invariant.from

pub past_place-i-requires : goal.past_place-i-requires
past_place-i-requires c = c.loop-j.invariant.from

pub returns-in_default-number_over-clause-wide : goal.returns-in_default-number_over-clause-wide
returns-in_default-number_over-clause-wide c j is =
    let d_is : to_z w128 (of_z w128 c.args.den) ≡ c.args.den = to_z-of_z w128 c.args.den c.ranges.den in
    let own : List Term = c.args.own.now in
    let d : ℤ = to_z w128 (of_z w128 c.args.den) in
    let w = c.args.width in
    let j_at = c.loop-j.j in
    let x : ℤ = c.number_here-number.result in
    let x_fits : FitsSigned w128 x = search rules in
    let f : ℤ = c.factor-times.result in
    let f_fits : FitsSigned w128 f = search rules in
    let product : to_z w128 (of_z w128 x) *ℤ to_z w128 (of_z w128 f) ≡ number_at (row_over d w own) j_at =
    ap (λ z. z *ℤ to_z w128 (of_z w128 f)) (to_z-of_z w128 x x_fits ∙ c.number_here-number.ensures) ∙ ap (λ z. coefficient own j_at *ℤ z) (to_z-of_z w128 f f_fits ∙ c.factor-times.ensures) ∙ sym (over_at d w j_at own c.loop-j-test.true) in
    let at : c.loop-j.j ≡ j = cc in
    let wide : is_wide (number_at (row_over c.args.den w own) c.loop-j.j) ≡ true = ap (λ z. is_wide (number_at (row_over z w own) j_at)) (sym d_is) ∙ ap is_wide (sym product) ∙ c.in_default-number_over.ensures.none in
    subst (λ n. (n < w) × (is_wide (number_at (row_over c.args.den w own) n) ≡ true)) at (c.loop-j-test.true, wide)

pub loop-j-preserved : goal.loop-j-preserved
loop-j-preserved c =
    let own : List Term = c.args.own.now in
    let d : ℤ = to_z w128 (of_z w128 c.args.den) in
    let w = c.args.width in
    let j_at = c.loop-j.j in
    let x : ℤ = c.number_here-number.result in
    let x_fits : FitsSigned w128 x = search rules in
    let f : ℤ = c.factor-times.result in
    let f_fits : FitsSigned w128 f = search rules in
    let product : to_z w128 (of_z w128 x) *ℤ to_z w128 (of_z w128 f) ≡ number_at (row_over d w own) j_at =
    ap (λ z. z *ℤ to_z w128 (of_z w128 f)) (to_z-of_z w128 x x_fits ∙ c.number_here-number.ensures) ∙ ap (λ z. coefficient own j_at *ℤ z) (to_z-of_z w128 f f_fits ∙ c.factor-times.ensures) ∙ sym (over_at d w j_at own c.loop-j-test.true) in
    let over : ℤ = c.in-Some.over in
    let over_fits : FitsSigned w128 over = search rules in
    record {
      from = c.past_place-i.ensures;
      numbers = c.in-Ok-push.ensures.items ∙ ap (λ (t : List ℤ). t ++ to_z w128 (of_z w128 over) ∷ []) c.loop-j.invariant.numbers ∙ ap (λ z. take j_at (row_over d w own) ++ z ∷ []) (to_z-of_z w128 over over_fits ∙ c.in-Some.ensures.over ∙ product) ∙ sym (take_more (row_over d w own) j_at (pos 0) (omega (arith, length-row_over d w own, c.loop-j-test.true)));
    }

pub returns-clause-ok : goal.returns-clause-ok
returns-clause-ok c =
    let d : ℤ = to_z w128 (of_z w128 c.args.den) in
    c.loop-j.invariant.numbers ∙ take_all c.loop-j.j (row_over d c.args.width c.args.own.now) (omega (arith, length-row_over d c.args.width c.args.own.now, c.loop-j-test.false)) ∙ ap (λ z. row_over z c.args.width c.args.own.now) (to_z-of_z w128 c.args.den c.ranges.den)
