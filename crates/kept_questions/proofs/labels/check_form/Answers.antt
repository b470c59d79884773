use Rattle.std.proofs.Common.{◌≡◌, ◌∙◌, ℕ, suc, [], ap, sym, subst, length, refl, slice_get, Some, List, Option, pos, neg_ℤ, FitsSigned, to_z, of_z, arith, rules}
use Rattle.std.specs.Int.{w128}
use Rattle.std.specs.Option.{option_map_or}
use Rattle.std.proofs.lemmas.Int.{ints, to_z-of_z}
use Rattle.std.proofs.lemmas.Option.{slice_get_read}
use Rattle.sdc_base.specs.Forms.{Term, coefficient, form_times}
use Rattle.sdc_base.specs.Systems.{number_at}
use Rattle.sdc_base.specs.declared.relation.Relation.{Relation}
use Rattle.tableau.specs.Amounts.{value_of}
use Rattle.interval_audit.specs.Labels.{Form, Negated}
use Rattle.interval_audit.specs.MovePairs.{form_list}
use Rattle.kept_questions.specs.TermLists.{moves_in}
use Rattle.kept_questions.proofs.LabelChecks.{side_fits}
use Rattle.kept_questions.proofs.labels.check_form.Goals as goal

pub returns-clause-fit : goal.returns-clause-fit
returns-clause-fit c =
    let number : ℕ = c.args.number in
    let list : List Term = c.as_slice-list.result.now in
    let weight_fits : FitsSigned w128 c.number_at-weight.result = search rules in
    let less_fits : FitsSigned w128 c.in_ok-less.less = search rules in
    let weight : to_z w128 (of_z w128 c.number_at-weight.result) ≡ number_at c.args.checked.now.weights.now number = to_z-of_z w128 c.number_at-weight.result weight_fits ∙ c.number_at-weight.ensures in
    let turned = simp to_z-of_z at c.in_ok-less.ensures in
    let less : to_z w128 (of_z w128 c.in_ok-less.less) ≡ neg_ℤ (number_at c.args.checked.now.weights.now number) = to_z-of_z w128 c.in_ok-less.less less_fits ∙ turned ∙ ap neg_ℤ c.number_at-weight.ensures in
    let lookup = c.in-Some.ensures.lookup in
    let read : slice_get c.as_slice.result.now number ≡ Some c.in-Some.relation.now = slice_get_read c.as_slice.result.now (length c.as_slice.result.now) number c.in-Some.relation.now refl lookup.3.0 lookup.1 in
    let found : slice_get c.args.checked.now.system.now.relations number ≡ Some c.in-Some.relation.now = subst (λ (rs : List Relation). slice_get rs number ≡ Some c.in-Some.relation.now) c.as_slice.ensures read in
    let same : (i : ℕ) → coefficient list i ≡ form_list c.args.checked.now.system.now (moves_in c.args.checked.now.lists.now) number i = λ i.
    ap (λ (ts : List Term). coefficient ts i) c.as_slice-list.ensures.value ∙ c.in_ok-made.ensures i
    ∙ ap (λ (o : Option Relation). value_of (λ cell. moves_in c.args.checked.now.lists.now cell i) (option_map_or (form_times (pos 1)) o [])) (sym found) in
    let next : c.limit_of-negated.result.own ≡ suc c.args.place = omega (arith, c.limit_of-negated.ensures.own, c.in_ok-next.ensures) in (
      side_fits c.args.checked.now c.args.place (Form number) c.limit_of-form.result.den c.limit_of-form.result.bound (pos 1) (to_z w128 (of_z w128 c.in_ok-less.less)) c.limit_of-form.result.own list c.limit_of-form.ensures.den c.limit_of-form.ensures.own c.limit_of-form.ensures.bound less (λ i. omega (arith, ints, same i)) c.in_ok-check_side.ensures.within c.in_ok-check_side.ensures.stands,
      (
        side_fits c.args.checked.now (suc c.args.place) (Negated number) c.limit_of-negated.result.den c.limit_of-negated.result.bound (neg_ℤ (pos 1)) (to_z w128 (of_z w128 c.number_at-weight.result)) c.limit_of-negated.result.own list c.limit_of-negated.ensures.den next c.limit_of-negated.ensures.bound weight (λ i. omega (arith, ints, same i)) c.in_ok-check_side-2.ensures.within c.in_ok-check_side-2.ensures.stands,
        tt,
      ),
    )
