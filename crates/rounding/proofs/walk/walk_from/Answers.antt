use Rattle.std.proofs.Common.{◌∙◌, ◌<◌, ◌-◌, ◌∷◌, [], List, length, length-append, arith, ap}
use Rattle.rounding.specs.declared.steps.Step.{Step}
use Rattle.signed_network.specs.Arcs.{arc_at}
use Rattle.rounding.proofs.Circling.{read_step, from_read}
use Rattle.rounding.proofs.Walking.{starts, goes_round, ends_apart, goes_on, walk_short}
use Rattle.rounding.proofs.walk.walk_from.Goals as goal

pub steps-init : goal.steps-init
steps-init c =
    let arcs = c.args.network.now.arcs.items in
    let base = c.args.task.now.base in
    let numbers = c.args.numbers.now in
    let step = c.step_from-step.result in
    let below : c.args.cell < length arcs = omega (arith, c.requires.balanced.each, c.requires.cell) in
    let read = read_step base arcs numbers c.args.cell c.index-arc.result.now step c.requires.balanced.each c.requires.cell c.requires.partly c.index-arc.ensures c.step_from-step.ensures.cell c.step_from-step.ensures.along in
    starts arcs base numbers (arc_at arcs c.args.cell).from c.new-steps.result.items step c.new-steps.ensures.items (from_read arcs c.args.cell c.index-arc.result.now step below c.index-arc.ensures c.step_from-step.ensures.start) read.0 read.1

pub returns-in-Some : goal.returns-in-Some
returns-in-Some c =
    let arcs = c.args.network.now.arcs.items in
    let found = rw c.as_slice.ensures.value at c.in-Some.ensures.starts_there in
    goes_round arcs c.args.task.now.base c.args.numbers.now (arc_at arcs c.args.cell).from c.steps.steps.items c.push.new.self.items c.steps.step c.in-Some.place c.steps.invariant c.in_ok-push.ensures.items found.0 found.1

pub next_step-step-requires-clause-balanced : goal.next_step-step-requires-clause-balanced
next_step-step-requires-clause-balanced c = c.requires.balanced

pub next_step-step-requires-clause-apart : goal.next_step-step-requires-clause-apart
next_step-step-requires-clause-apart c =
    let unmet = rw c.as_slice.ensures.value at c.in_default.ensures.none in
    (ends_apart c.steps.steps.items c.push.new.self.items c.steps.step c.in_ok-push.ensures.items unmet).1

pub steps-preserved : goal.steps-preserved
steps-preserved c =
    let arcs = c.args.network.now.arcs.items in
    let next = c.next_step-step.result in
    let unmet = rw c.as_slice.ensures.value at c.in_default.ensures.none in
    let inside : next.cell < length arcs = omega (arith, c.requires.balanced.each, c.next_step-step.ensures.moves.inside) in
    goes_on arcs c.args.task.now.base c.args.numbers.now (arc_at arcs c.args.cell).from c.steps.steps.items c.push.new.self.items c.steps.step next c.steps.invariant c.in_ok-push.ensures.items unmet c.next_step-step.ensures.start c.next_step-step.ensures.other (inside, c.next_step-step.ensures.along) c.next_step-step.ensures.moves

pub steps-smaller : goal.steps-smaller
steps-smaller c =
    let arcs = c.args.network.now.arcs.items in
    let short = walk_short arcs c.args.task.now.base c.args.numbers.now (arc_at arcs c.args.cell).from c.steps.steps.items c.steps.step c.steps.invariant in
    let longer = ap (λ (ss : List Step). length ss) c.in_ok-push.ensures.items ∙ length-append c.steps.steps.items (c.steps.step ∷ []) in
    let less : length arcs - length c.push.new.self.items < length arcs - length c.steps.steps.items = omega (arith, short, longer) in
    less
