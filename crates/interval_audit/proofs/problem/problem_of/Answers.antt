use Rattle.std.proofs.Common.{ap, ◌∙◌}
use Rattle.interval_audit.specs.Groups.{group_of}
use Rattle.interval_audit.specs.Labels.{met_relations}
use Rattle.interval_audit.proofs.ProblemSizes.{if_sized}
use Rattle.interval_audit.proofs.problem.problem_of.Goals as goal

pub problem_over-requires-clause-met : goal.problem_over-requires-clause-met
problem_over-requires-clause-met c = c.as_slice-list.ensures.value ∙ c.in_ok-met.ensures ∙ ap (met_relations (group_of c.args.of.now c.args.question.cell)) c.as_slice-relations.ensures

pub returns-clause-size : goal.returns-clause-size
returns-clause-size c = if_sized c.args.system.now c.args.cells.now (group_of c.args.of.now c.args.question.cell) c.args.question c.problem_over.result c.problem_over.ensures
