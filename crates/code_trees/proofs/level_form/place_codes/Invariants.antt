use Rattle.std.proofs.Common.{◌≡◌, [], ◌∷◌, None, take, drop}
use Rattle.sdc_base.specs.Trees.{codes, IsCodeTree}
use Rattle.code_trees.specs.Path.{IsPath}
use Rattle.code_trees.specs.Levels.{tree_of_codes}
use Rattle.code_trees.proofs.level_form.place_codes.Given as goal
use Rattle.code_trees.proofs.LevelSteps.{last_chain, ArePlacesOf}

abbrev pub invariant-codes : goal.invariant-codes
invariant-codes l = record {
  tree : IsCodeTree l.nodes;
  path : IsPath l.nodes l.path.items;
  known : codes l.nodes ≡ l.total ∷ take l.code-index l.codes;
  held : ArePlacesOf l.nodes l.path.items (last_chain l.total l.bounds l.codes l.code-index);
  rest : tree_of_codes l.total l.bounds ((l.total, None) ∷ []) l.codes ≡ tree_of_codes l.total l.bounds l.nodes (drop l.code-index l.codes);
}
