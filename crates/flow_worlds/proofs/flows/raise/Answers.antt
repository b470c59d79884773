use Rattle.std.proofs.Common.{◌∙◌}
use Rattle.flow_worlds.proofs.Answering.{still_flow}
use Rattle.flow_worlds.proofs.flows.raise.Goals as goal

pub raise_moves-requires-clause-flow : goal.raise_moves-requires-clause-flow
raise_moves-requires-clause-flow c =
    let none = c.in_ok-moves.ensures.items_if_clones_equal (λ y is. is) in
    still_flow c.args.task.now c.as_mut_slice.result.now (c.as_mut_slice.ensures.value ∙ none)
