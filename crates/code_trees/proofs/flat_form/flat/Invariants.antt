use Rattle.std.proofs.Common.{◌≡◌, ◌+◌, [], ◌∷◌, take, drop}
use Rattle.sdc_base.specs.Trees.{IsCodeTree, flat_tree}
use Rattle.code_trees.specs.Faults.{first_code_fault}
use Rattle.code_trees.proofs.flat_form.flat.Given as goal

abbrev pub invariant-codes : goal.invariant-codes
invariant-codes l = record {
  tree : IsCodeTree l.nodes;
  nodes : l.nodes ≡ flat_tree l.total (take l.i l.codes);
  rest : first_code_fault 1 (l.total ∷ []) l.codes ≡ first_code_fault (l.i + 1) (l.total ∷ take l.i l.codes) (drop l.i l.codes);
}
