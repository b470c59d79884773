use Rattle.std.proofs.Common.{◌∙◌, ◌<◌, length, get_or, arith, refl, FitsSigned, length-set}
use Rattle.std.specs.Int.{w128}
use Rattle.std.proofs.lemmas.Int.{ints, to_z-of_z}
use Rattle.std.proofs.lemmas.Option.{slice_get_read}
use Rattle.rounding.proofs.SumSteps.{none_moved, not_yet, one_more_moved, all_moved, read_at}
use Rattle.rounding.proofs.numbers.move_sums.Goals as goal

pub overflow_add-index_mut : goal.overflow_add-index_mut
overflow_add-index_mut c =
    let n = get_or c.args.forms.now.named.now c.named.number-index 0 in
    let small = c.requires.small n in
    let within = c.requires.named.ascends.within c.named.number-index c.named-test.true in
    let inside : n < length c.named.sums.items = omega (arith, c.named.invariant.each, c.requires.each, within) in
    let now = read_at c.named.sums.items n c.index_mut.result.now inside c.index_mut.ensures.value in
    let same = not_yet c.args.forms.now.relations.now c.args.forms.now.named.now c.args.sums.now.items c.named.sums.items c.args.forms.now.cell _ _ c.named.number-index c.named-test.true c.requires.named c.named.invariant.moved in
    omega (arith, ints, now, small.0, small.1, same, c.sum_change.ensures.low, c.sum_change.ensures.high)

pub named-preserved : goal.named-preserved
named-preserved c =
    let n = get_or c.args.forms.now.named.now c.named.number-index 0 in
    let small = c.requires.small n in
    let within = c.requires.named.ascends.within c.named.number-index c.named-test.true in
    let inside : n < length c.named.sums.items = omega (arith, c.named.invariant.each, c.requires.each, within) in
    let now = read_at c.named.sums.items n c.index_mut.result.now inside c.index_mut.ensures.value in
    let same = not_yet c.args.forms.now.relations.now c.args.forms.now.named.now c.args.sums.now.items c.named.sums.items c.args.forms.now.cell _ _ c.named.number-index c.named-test.true c.requires.named c.named.invariant.moved in
    record {
      each = length-set c.named.sums.items n _ ∙ c.named.invariant.each;
      moved = one_more_moved c.args.forms.now.relations.now c.args.forms.now.named.now c.args.sums.now.items c.named.sums.items c.args.forms.now.cell _ _ c.named.number-index c.index-relations-number.result _ c.named-test.true c.requires.named (c.named.invariant.each ∙ c.requires.each)
          (slice_get_read c.args.forms.now.relations.now (length c.args.forms.now.relations.now) n c.index-relations-number.result refl within c.index-relations-number.is)
          (omega (arith, ints, now, small.0, small.1, same, c.sum_change.ensures.value, c.sum_change.ensures.low, c.sum_change.ensures.high))
          c.named.invariant.moved;
    }

pub named-init : goal.named-init
named-init c = record { each = refl; moved = none_moved c.args.forms.now.relations.now c.args.forms.now.named.now c.args.sums.now.items c.args.forms.now.cell _ _ }

pub returns-clause-moved : goal.returns-clause-moved
returns-clause-moved c = λ n r there.
    let one : FitsSigned w128 c.args.one = c.ranges.one in
    let other : FitsSigned w128 c.args.other = c.ranges.other in
    let moved = all_moved c.args.forms.now.relations.now c.args.forms.now.named.now c.args.sums.now.items c.named.sums.items c.args.forms.now.cell _ _ c.named.number-index c.named-test.false c.named.auto.number-index-end c.requires.named c.named.invariant.moved n r there in
    simp to_z-of_z at moved
