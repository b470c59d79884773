use Rattle.std.proofs.Common.{◌≡◌, ◌<◌, ℕ, slice_get, Some}
use Rattle.sdc_base.specs.Forests.{IsForest, Joins}
use Rattle.sdc_base.specs.declared.relation.Relation.{Relation}
use Rattle.sdc_base.proofs.connected.forest_of.Given as goal

abbrev pub invariant-relations : goal.invariant-relations
invariant-relations l = record {
  forest : IsForest l.system.relations l.flags l.system.cells l.lower.items;
  joined : (k : ℕ) (one : Relation) → k < l.relation-index → slice_get l.system.relations k ≡ Some one → Joins l.flags l.lower.items one;
}
