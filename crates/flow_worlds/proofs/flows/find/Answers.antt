use Rattle.std.proofs.Common.{sym, ◌∙◌}
use Rattle.flow_worlds.proofs.Cutting.{none_is_cut}
use Rattle.flow_worlds.proofs.flows.find.Goals as goal

pub returns-then-not-is_open : goal.returns-then-not-is_open
returns-then-not-is_open c = none_is_cut c.args.task.now c.args.moves.now c.no_multipliers.result c.requires.flow (sym c.is_open.ensures ∙ c.if-not-is_open.true) c.no_multipliers.ensures.whole c.no_multipliers.ensures.none
