use Rattle.std.proofs.Common.{◌≡◌, ◌∙◌, ℕ, suc, ap, sym, subst, length, refl, slice_get, Some, None, List, Option, ℤ, pos, neg_ℤ, ◌-ℤ◌, ◌≤ℤ◌, FitsSigned, to_z, of_z, arith, rules}
use Rattle.std.specs.Int.{w128}
use Rattle.std.specs.Option.{option_map_or}
use Rattle.std.proofs.lemmas.Int.{ints, to_z-of_z}
use Rattle.std.proofs.lemmas.Option.{slice_get_read}
use Rattle.sdc_base.specs.declared.cell.Cell.{Cell}
use Rattle.sdc_base.specs.Forms.{Term, coefficient}
use Rattle.sdc_base.specs.Refutations.{rise}
use Rattle.sdc_base.specs.Systems.{number_at}
use Rattle.interval_audit.specs.Labels.{Label, CapAbove, CapBelow, fall, fall_at, rise_at}
use Rattle.kept_questions.specs.Checks.{LabelsFit}
use Rattle.kept_questions.specs.TermLists.{moves_in}
use Rattle.kept_questions.proofs.LabelChecks.{side_fits, caps_both, cap_alone}
use Rattle.kept_questions.proofs.labels.check_cap.Goals as goal

pub returns-in_default-high-clause-fit : goal.returns-in_default-high-clause-fit
returns-in_default-high-clause-fit c =
    let number : ℕ = c.args.number in
    let cells : List Cell = c.args.checked.now.cells.now in
    let cell : Cell = c.in-Some.cell.now in
    let list : List Term = c.list_at-list.result.now in
    let lookup = c.in-Some.ensures.lookup in
    let found : slice_get cells number ≡ Some cell = slice_get_read cells (length cells) number cell refl lookup.3.0 lookup.1 in
    let left_fits : FitsSigned w128 c.number_at-left.result = search rules in
    let less_fits : FitsSigned w128 c.in_ok-less.less = search rules in
    let left : to_z w128 (of_z w128 c.number_at-left.result) ≡ number_at c.args.checked.now.left.now number = to_z-of_z w128 c.number_at-left.result left_fits ∙ c.number_at-left.ensures in
    let turned = simp to_z-of_z at c.in_ok-less.ensures in
    let less : to_z w128 (of_z w128 c.in_ok-less.less) ≡ neg_ℤ (number_at c.args.checked.now.left.now number) = to_z-of_z w128 c.in_ok-less.less less_fits ∙ turned ∙ ap neg_ℤ c.number_at-left.ensures in
    let truth : FitsSigned w128 cell.truth = search rules in
    let low : FitsSigned w128 cell.low = search rules in
    let room : FitsSigned w128 (cell.truth -ℤ cell.low) = omega (arith, ints, cell.low_from_zero, cell.low_within) in
    let same : (i : ℕ) → coefficient list i ≡ moves_in c.args.checked.now.lists.now number i = λ i. ap (λ (ts : List Term). coefficient ts i) c.list_at-list.ensures in
    let falls : fall_at cells number ≡ cell.truth -ℤ cell.low = ap (λ (o : Option Cell). option_map_or fall o (pos 0)) found in
    let bare : cell.high ≡ None = search rules in
    let bound = simp to_z-of_z at c.limit_of-below.ensures.bound in
    subst (λ (ls : List Label). LabelsFit c.args.checked.now c.args.place ls) (sym (cap_alone cells number cell found bare))
    (side_fits c.args.checked.now c.args.place (CapBelow number) c.limit_of-below.result.den c.limit_of-below.result.bound (neg_ℤ (pos 1)) (to_z w128 (of_z w128 c.in_ok-less.less)) c.limit_of-below.result.own list c.limit_of-below.ensures.den c.limit_of-below.ensures.own (bound ∙ sym falls) less (λ i. omega (arith, ints, same i)) c.in_ok-check_side.ensures.within c.in_ok-check_side.ensures.stands, tt)

pub returns-in_default-high-clause-next : goal.returns-in_default-high-clause-next
returns-in_default-high-clause-next c =
    let lookup = c.in-Some.ensures.lookup in
    let found : slice_get c.args.checked.now.cells.now c.args.number ≡ Some c.in-Some.cell.now = slice_get_read c.args.checked.now.cells.now (length c.args.checked.now.cells.now) c.args.number c.in-Some.cell.now refl lookup.3.0 lookup.1 in
    let bare : c.in-Some.cell.now.high ≡ None = search rules in
    omega (arith, c.in_ok-behind.ensures, ap length (cap_alone c.args.checked.now.cells.now c.args.number c.in-Some.cell.now found bare))

pub overflow_sub-rise : goal.overflow_sub-rise
overflow_sub-rise c =
    let high : FitsSigned w128 c.in-Some-high.high = search rules in
    let truth : FitsSigned w128 c.in-Some.cell.now.truth = search rules in
    let beyond : c.in-Some.cell.now.truth ≤ℤ c.in-Some-high.high = c.in-Some.cell.now.high_beyond c.in-Some-high.high c.in-Some-high.is in
    let room : FitsSigned w128 (c.in-Some-high.high -ℤ c.in-Some.cell.now.truth) = omega (arith, ints, beyond, c.in-Some.cell.now.low_from_zero, c.in-Some.cell.now.low_within) in
    simp to_z-of_z room

pub returns-clause-fit : goal.returns-clause-fit
returns-clause-fit c =
    let number : ℕ = c.args.number in
    let cells : List Cell = c.args.checked.now.cells.now in
    let cell : Cell = c.in-Some.cell.now in
    let list : List Term = c.list_at-list.result.now in
    let lookup = c.in-Some.ensures.lookup in
    let found : slice_get cells number ≡ Some cell = slice_get_read cells (length cells) number cell refl lookup.3.0 lookup.1 in
    let left_fits : FitsSigned w128 c.number_at-left.result = search rules in
    let less_fits : FitsSigned w128 c.in_ok-less.less = search rules in
    let left : to_z w128 (of_z w128 c.number_at-left.result) ≡ number_at c.args.checked.now.left.now number = to_z-of_z w128 c.number_at-left.result left_fits ∙ c.number_at-left.ensures in
    let turned = simp to_z-of_z at c.in_ok-less.ensures in
    let less : to_z w128 (of_z w128 c.in_ok-less.less) ≡ neg_ℤ (number_at c.args.checked.now.left.now number) = to_z-of_z w128 c.in_ok-less.less less_fits ∙ turned ∙ ap neg_ℤ c.number_at-left.ensures in
    let truth : FitsSigned w128 cell.truth = search rules in
    let low : FitsSigned w128 cell.low = search rules in
    let room : FitsSigned w128 (cell.truth -ℤ cell.low) = omega (arith, ints, cell.low_from_zero, cell.low_within) in
    let same : (i : ℕ) → coefficient list i ≡ moves_in c.args.checked.now.lists.now number i = λ i. ap (λ (ts : List Term). coefficient ts i) c.list_at-list.ensures in
    let falls : fall_at cells number ≡ cell.truth -ℤ cell.low = ap (λ (o : Option Cell). option_map_or fall o (pos 0)) found in
    let high : FitsSigned w128 c.in-Some-high.high = search rules in
    let beyond : cell.truth ≤ℤ c.in-Some-high.high = cell.high_beyond c.in-Some-high.high c.in-Some-high.is in
    let over : FitsSigned w128 (c.in-Some-high.high -ℤ cell.truth) = omega (arith, ints, beyond, cell.low_from_zero, cell.low_within) in
    let rises : rise_at cells number ≡ c.in-Some-high.high -ℤ cell.truth = ap (λ (o : Option Cell). option_map_or rise o (pos 0)) found ∙ ap (λ (o : Option ℤ). option_map_or (λ (z : ℤ). z -ℤ cell.truth) o (pos 0)) c.in-Some-high.is in
    let above = simp to_z-of_z at c.limit_of-above.ensures.bound in
    let below = simp to_z-of_z at c.limit_of-below-2.ensures.bound in
    let next : c.limit_of-below-2.result.own ≡ suc c.args.place = omega (arith, c.limit_of-below-2.ensures.own, c.in_ok-next.ensures) in
    subst (λ (ls : List Label). LabelsFit c.args.checked.now c.args.place ls) (sym (caps_both cells number cell c.in-Some-high.high found c.in-Some-high.is)) (
      side_fits c.args.checked.now c.args.place (CapAbove number) c.limit_of-above.result.den c.limit_of-above.result.bound (pos 1) (to_z w128 (of_z w128 c.number_at-left.result)) c.limit_of-above.result.own list c.limit_of-above.ensures.den c.limit_of-above.ensures.own (above ∙ sym rises) left (λ i. omega (arith, ints, same i)) c.in_ok-check_side-2.ensures.within c.in_ok-check_side-2.ensures.stands,
      (
        side_fits c.args.checked.now (suc c.args.place) (CapBelow number) c.limit_of-below-2.result.den c.limit_of-below-2.result.bound (neg_ℤ (pos 1)) (to_z w128 (of_z w128 c.in_ok-less.less)) c.limit_of-below-2.result.own list c.limit_of-below-2.ensures.den next (below ∙ sym falls) less (λ i. omega (arith, ints, same i)) c.in_ok-check_side-3.ensures.within c.in_ok-check_side-3.ensures.stands,
        tt,
      ),
    )

pub returns-clause-next : goal.returns-clause-next
returns-clause-next c =
    let lookup = c.in-Some.ensures.lookup in
    let found : slice_get c.args.checked.now.cells.now c.args.number ≡ Some c.in-Some.cell.now = slice_get_read c.args.checked.now.cells.now (length c.args.checked.now.cells.now) c.args.number c.in-Some.cell.now refl lookup.3.0 lookup.1 in
    omega (arith, c.in_ok-next.ensures, c.in_ok-behind-2.ensures, ap length (caps_both c.args.checked.now.cells.now c.args.number c.in-Some.cell.now c.in-Some-high.high found c.in-Some-high.is))
