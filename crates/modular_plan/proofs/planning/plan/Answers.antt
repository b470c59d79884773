use Rattle.std.proofs.Common.{◌≡◌, ℕ, ◌+◌, ◌-◌, ◌∙◌, List, fold, refl, ap, subst, arith, sym}
use Rattle.std.specs.List.{AllByRecursion, range_with_len}
use Rattle.sdc_base.specs.Subtables.{ordered_subtables, subtables_from}
use Rattle.sdc_base.specs.declared.cube.Subtable.{Subtable}
use Rattle.sdc_base.specs.declared.trail.PlanStep.{PlanStep}
use Rattle.modular_plan.specs.Beginnings.{Begins}
use Rattle.modular_plan.specs.StepLaws.{IsWholeStep}
use Rattle.modular_plan.specs.Plans.{in_passes, trail_of, with_subtable}
use Rattle.modular_plan.proofs.Marked.{same-then}
use Rattle.modular_plan.proofs.Passes.{if-err, passes-next, same-order}
use Rattle.modular_plan.proofs.PlanSteps.{begins-more}
use Rattle.modular_plan.proofs.SameBooks.{same-costed, same-pass}
use Rattle.modular_plan.proofs.WholeSteps.{steps_are_whole}
use Rattle.modular_plan.proofs.planning.plan.Goals as goal

pub add_pass-requires-clause-costed : goal.add_pass-requires-clause-costed
add_pass-requires-clause-costed g c = same-costed c.args.book.now c.passes.book c.passes.invariant.same c.requires.costed

pub returns-in_err-add_pass-clause-stopped : goal.returns-in_err-add_pass-clause-stopped
returns-in_err-add_pass-clause-stopped g c =
    let book = c.args.book.now in
    let cells = c.args.cells.now in
    let cost = c.args.rule.now in
    let so_far : List PlanStep = c.passes.steps.items in
    let stopped : List PlanStep = c.add_pass.new.steps.items in
    let k = c.passes.counter in
    let all : c.as_slice.result.now ≡ subtables_from c.mark_primary.new.book.trees 0 c.mark_primary.new.book.tables = c.as_slice.ensures.value ∙ c.in_ok-all.ensures in
    let order : List Subtable = ordered_subtables book.trees book.tables in
    let made : c.as_slice-in-passes.result.now ≡ order = c.as_slice-in-passes.ensures.value ∙ same-order book c.mark_primary.new.book c.as_slice.result.now c.in_ok-subtables.subtables.items c.mark_primary.ensures.same all c.in_ok-subtables.ensures in
    let whole : List PlanStep = fold (with_subtable book cells cost) so_far order in
    let pass : fold (with_subtable c.passes.book cells cost) so_far c.as_slice-in-passes.result.now ≡ whole =
    same-pass book c.passes.book cells cost so_far c.as_slice-in-passes.result.now c.passes.invariant.same ∙ ap (λ (subtables : List Subtable). fold (with_subtable book cells cost) so_far subtables) made
    in
    let first : Begins stopped whole = subst (λ (steps : List PlanStep). Begins stopped steps) pass c.in_err-add_pass.ensures.stopped in
    let left : List Subtable = in_passes order (range_with_len (k + 1) (c.args.passes - (k + 1))) in
    let rest : fold (with_subtable book cells cost) whole left ≡ trail_of book cells cost c.args.passes = passes-next (with_subtable book cells cost) order so_far whole k c.args.passes c.passes-test.true refl ∙ c.passes.invariant.rest in
    if-err c.from_residual-in_err-add_pass.result (stopped, subst (λ (steps : List PlanStep). Begins stopped steps) rest (begins-more book cells cost stopped whole left first), c.add_pass.ensures.marked)

pub passes-preserved : goal.passes-preserved
passes-preserved g c =
    let book = c.args.book.now in
    let cells = c.args.cells.now in
    let cost = c.args.rule.now in
    let so_far : List PlanStep = c.passes.steps.items in
    let all : c.as_slice.result.now ≡ subtables_from c.mark_primary.new.book.trees 0 c.mark_primary.new.book.tables = c.as_slice.ensures.value ∙ c.in_ok-all.ensures in
    let order : List Subtable = ordered_subtables book.trees book.tables in
    let made : c.as_slice-in-passes.result.now ≡ order = c.as_slice-in-passes.ensures.value ∙ same-order book c.mark_primary.new.book c.as_slice.result.now c.in_ok-subtables.subtables.items c.mark_primary.ensures.same all c.in_ok-subtables.ensures in
    let pass : c.add_pass.new.steps.items ≡ fold (with_subtable book cells cost) so_far order =
    c.in_ok-add_pass.ensures.ok
    ∙ same-pass book c.passes.book cells cost so_far c.as_slice-in-passes.result.now c.passes.invariant.same
    ∙ ap (λ (subtables : List Subtable). fold (with_subtable book cells cost) so_far subtables) made
    in
    record {
      rest = passes-next (with_subtable book cells cost) order so_far c.add_pass.new.steps.items c.passes.counter c.args.passes c.passes-test.true pass ∙ c.passes.invariant.rest;
      marked = c.add_pass.ensures.marked;
      same = same-then book c.passes.book c.add_pass.new.book c.passes.invariant.same c.add_pass.ensures.same;
    }

pub returns-clause-whole_steps : goal.returns-clause-whole_steps
returns-clause-whole_steps g c =
    let book = c.args.book.now in
    let cells = c.args.cells.now in
    let cost = c.args.rule.now in
    let so_far : List PlanStep = c.passes.steps.items in
    let order : List Subtable = ordered_subtables book.trees book.tables in
    let none : c.args.passes - c.passes.counter ≡ 0 = omega (arith, c.passes-test.false) in
    let made : so_far ≡ trail_of book cells cost c.args.passes = ap (λ (left : ℕ). fold (with_subtable book cells cost) so_far (in_passes order (range_with_len c.passes.counter left))) (sym none) ∙ c.passes.invariant.rest in
    subst (λ (steps : List PlanStep). AllByRecursion (IsWholeStep book cells) steps) (sym (c.new.ensures ∙ made)) (steps_are_whole book cells cost c.args.passes c.cells-cells.ensures.book)
