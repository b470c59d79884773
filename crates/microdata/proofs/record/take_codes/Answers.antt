use Rattle.std.proofs.Common.{◌+◌, ap, refl, ◌∙◌, List, arith, take, drop}
use Rattle.std.proofs.lemmas.List.{length-set, take_more_set, drop-set-lt, take_all}
use Rattle.std.proofs.lemmas.List.Elements.{All-set}
use Rattle.std.proofs.lemmas.Result.{err_from_is_err_and}
use Rattle.microdata.specs.Keeping.{IsVariable}
use Rattle.microdata.specs.OneRecord.{variables_say}
use Rattle.microdata.specs.declared.record.Variable.{Variable}
use Rattle.microdata.proofs.VariableSteps.{with_fronts, fronts_next, fronts_stop, fronts_end, at_place, past_end}
use Rattle.microdata.proofs.record.take_codes.Goals as goal

pub returns-in_err-place-clause-said : goal.returns-in_err-place-clause-said
returns-in_err-place-clause-said c =
    let p = err_from_is_err_and c.from_residual.result c.from_residual.ensures.1 in
    let here = at_place c.variables.variables.items c.variables.k c.index_mut.result.now (omega (arith, c.len.ensures, c.variables-test.true)) c.index_mut.ensures.value in
    rw (p.1, p.2, c.variables.invariant.so_far, here)
    (fronts_stop c.in_err-place.field-0.0 (take c.variables.k c.variables.variables.items) c.variables.places.items c.index_mut.result.now (drop (c.variables.k + 1) c.variables.variables.items) c.args.line.now c.in_err-place.ensures.said)

pub variables-preserved : goal.variables-preserved
variables-preserved c =
    let here = at_place c.variables.variables.items c.variables.k c.index_mut.result.now (omega (arith, c.len.ensures, c.variables-test.true)) c.index_mut.ensures.value in
    record {
      so_far =
          c.variables.invariant.so_far
          ∙ ap (λ (rest : List Variable). with_fronts (take c.variables.k c.variables.variables.items) c.variables.places.items (variables_say rest c.args.line.now)) here
          ∙ fronts_next (take c.variables.k c.variables.variables.items) c.variables.places.items c.index_mut.result.now c.take_variable.new.variable c.in_ok-place.place (drop (c.variables.k + 1) c.variables.variables.items) c.args.line.now c.in_ok-place.ensures.said
          ∙ rw (take_more_set c.variables.variables.items c.variables.k c.take_variable.new.variable (omega (arith, c.len.ensures, c.variables-test.true)), c.push.ensures.items, drop-set-lt (c.variables.k + 1) c.variables.variables.items c.variables.k c.take_variable.new.variable (omega arith)) refl;
      count = omega (arith, c.variables.invariant.count, c.push.ensures.len);
      within = omega (arith, c.len.ensures, c.variables-test.true, length-set c.variables.variables.items c.variables.k c.take_variable.new.variable);
      few = omega (arith, c.variables.invariant.few, length-set c.variables.variables.items c.variables.k c.take_variable.new.variable);
      sound = All-set (IsVariable c.args.needed) c.variables.variables.items c.variables.k c.take_variable.new.variable c.in_ok-place.ensures.sound c.variables.invariant.sound;
    }

pub returns-clause-said : goal.returns-clause-said
returns-clause-said c =
    let none = past_end c.variables.variables.items c.variables.k (omega (arith, c.len.ensures, c.variables-test.false)) in
    let all = take_all c.variables.k c.variables.variables.items (omega (arith, c.len.ensures, c.variables-test.false)) in
    c.variables.invariant.so_far
    ∙ fronts_end (take c.variables.k c.variables.variables.items) c.variables.places.items (drop c.variables.k c.variables.variables.items) c.args.line.now none
    ∙ rw (all, c.new.ensures) refl
