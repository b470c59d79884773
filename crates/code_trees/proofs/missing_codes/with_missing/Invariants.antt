use Rattle.std.proofs.Common.{◌≡◌, ◌+◌, drop}
use Rattle.sdc_base.specs.Trees.{IsCodeTree}
use Rattle.code_trees.specs.MissingCodes.{with_codes}
use Rattle.code_trees.proofs.missing_codes.with_missing.Given as goal

abbrev pub invariant-missing : goal.invariant-missing
invariant-missing l = record {
  tree : IsCodeTree l.nodes;
  rest : with_codes 1 l.fn.tree l.missing ≡ with_codes (l.i + 1) l.nodes (drop l.i l.missing);
}
