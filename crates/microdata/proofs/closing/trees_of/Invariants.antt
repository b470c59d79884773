use Rattle.std.proofs.Common.{◌≡◌, map}
use Rattle.std.specs.List.{AllByRecursion}
use Rattle.sdc_base.specs.Trees.{IsCodeTree}
use Rattle.microdata.proofs.closing.trees_of.Given as goal

abbrev pub invariant-closed : goal.invariant-closed
invariant-closed l = record {
  trees : l.trees ≡ map (λ one. one.tree) l.yielded;
  made : AllByRecursion IsCodeTree l.trees;
}
