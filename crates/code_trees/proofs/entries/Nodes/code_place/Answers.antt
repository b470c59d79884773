use Rattle.std.proofs.Common.{◌∙◌, ap}
use Rattle.sdc_base.specs.Trees.{find}
use Rattle.code_trees.proofs.MapEntries.{find-entries}
use Rattle.code_trees.proofs.entries.Nodes.code_place.Goals as goal

pub returns-clause-place : goal.returns-clause-place
returns-clause-place c = c.get_index_of.ensures.index ∙ find-entries c.self.inside.map.entries c.args.code.now ∙ ap (λ tree. find tree c.args.code.now) c.self.view_is
