use Rattle.std.proofs.Common.{◌≡◌, List, true, false, length, arith, ap, subst, sym, ◌∙◌}
use Rattle.sdc_base.specs.declared.relation.Relation.{Relation}
use Rattle.flow_worlds.specs.Searches.{is_reached}
use Rattle.flow_worlds.proofs.Cutting.{cut_is, forward_stops, backward_stops, backward_ends}
use Rattle.flow_worlds.proofs.cut.cut_of.Goals as goal

pub is_forward_less-requires-clause-forward : goal.is_forward_less-requires-clause-forward
is_forward_less-requires-clause-forward c = omega (arith, ap (λ (rs : List Relation). length rs) c.as_slice-outside.ensures, c.requires.search.points, c.requires.task.points)

pub is_forward_less-requires-clause-backward : goal.is_forward_less-requires-clause-backward
is_forward_less-requires-clause-backward c = omega (arith, ap (λ (rs : List Relation). length rs) c.as_slice-outside.ensures, c.in_ok-backward.ensures.search.points, c.requires.task.points)

pub returns-then-is_forward_less : goal.returns-then-is_forward_less
returns-then-is_forward_less c =
    let task = c.args.task.now in
    let reached = c.args.forward.now.reached.items in
    let outside : is_reached reached (length task.system.now.relations) ≡ false = ap (λ (rs : List Relation). is_reached reached (length rs)) (sym c.as_slice-outside.ensures) ∙ c.is_forward_less.ensures.forward c.if-is_forward_less.true in
    let coefficients = rw c.as_slice.ensures.value at c.in_ok-multipliers.ensures.coefficients in
    cut_is task c.args.moves.now true task.asked reached c.in_ok-multipliers.multipliers c.requires.task c.requires.flow (forward_stops task c.args.moves.now c.args.forward.now c.requires.task c.requires.search c.requires.gone c.requires.unmet outside)
    c.in_ok-multipliers.ensures.whole c.in_ok-multipliers.ensures.listed c.in_ok-multipliers.ensures.ones coefficients

pub returns : goal.returns
returns c =
    let task = c.args.task.now in
    let back = c.in_ok-backward.ensures.search in
    let unmet = subst (λ (rs : List Relation). is_reached c.args.forward.now.reached.items (length rs) ≡ false → is_reached c.in_ok-backward.backward.reached.items (length rs) ≡ false) c.as_slice-outside.ensures (c.is_forward_less.ensures.backward c.if-is_forward_less.false) in
    let ends = backward_ends task c.args.moves.now c.step_of-turned.result c.args.forward.now c.in_ok-backward.backward c.requires.task c.requires.search c.requires.gone c.requires.unmet c.step_of-turned.ensures back in
    let stops = backward_stops task c.args.moves.now c.step_of-turned.result c.args.forward.now c.in_ok-backward.backward c.requires.task c.requires.search c.requires.gone c.requires.unmet unmet c.step_of-turned.ensures back (c.in_ok-backward.ensures.gone ends) in
    let coefficients = rw c.as_slice-2.ensures.value at c.in_ok-multipliers-2.ensures.coefficients in
    cut_is task c.args.moves.now false c.step_of-turned.result c.in_ok-backward.backward.reached.items c.in_ok-multipliers-2.multipliers c.requires.task c.requires.flow stops
    c.in_ok-multipliers-2.ensures.whole c.in_ok-multipliers-2.ensures.listed c.in_ok-multipliers-2.ensures.ones coefficients
