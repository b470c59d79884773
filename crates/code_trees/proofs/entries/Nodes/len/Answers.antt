use Rattle.std.proofs.Common.{subst}
use Rattle.sdc_base.specs.Trees.{HasDistinctCodes}
use Rattle.code_trees.proofs.MapEntries.{distinct-entries}
use Rattle.code_trees.proofs.entries.Nodes.len.Goals as goal

pub returns-clause-distinct : goal.returns-clause-distinct
returns-clause-distinct c = subst HasDistinctCodes c.self.view_is (distinct-entries c.self.inside.map.entries c.len.ensures.unique)
