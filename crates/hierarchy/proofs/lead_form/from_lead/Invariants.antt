use Rattle.std.proofs.Common.{◌≡◌, ◌+◌, length}
use Rattle.sdc_base.specs.Lines.{lines}
use Rattle.sdc_base.specs.Trees.{IsCodeTree}
use Rattle.hierarchy.specs.Lead.{lead_of, lead_lines}
use Rattle.code_trees.specs.Path.{IsPath}
use Rattle.hierarchy.specs.LeadPath.{tree_with_lines}
use Rattle.hierarchy.proofs.lead_form.from_lead.Given as goal

abbrev pub invariant-lines : goal.invariant-lines
invariant-lines l = record {
  tree : IsCodeTree l.nodes;
  path : IsPath l.nodes l.path.items;
  numbers : l.reader.given + length (lines l.reader.rest) ≡ length (lines l.bytes);
  rest : lead_of l.lead l.total l.bytes ≡ tree_with_lines l.nodes l.path.items (lead_lines l.lead (l.reader.given + 1) (lines l.reader.rest));
}

abbrev pub decreases-lines : goal.decreases-lines
decreases-lines l = length (lines l.reader.rest)
