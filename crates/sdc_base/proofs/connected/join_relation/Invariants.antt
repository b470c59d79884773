use Rattle.std.proofs.Common.{◌≡◌, ◌==◌, ◌||◌, true, ℕ, take}
use Rattle.std.specs.List.{list_any}
use Rattle.sdc_base.specs.HiddenSets.{is_hidden}
use Rattle.sdc_base.specs.Forests.{IsForest, Meet}
use Rattle.sdc_base.proofs.connected.join_relation.Given as goal

abbrev pub invariant-parts : goal.invariant-parts
invariant-parts l = record {
  forest : IsForest l.system.relations l.flags l.system.cells l.lower.items;
  kept : (one other : ℕ) → Meet l.fn.lower.items one other → Meet l.lower.items one other;
  joined : (cell : ℕ) → (l.fn.relation.total == cell || list_any (λ part. part == cell) (take l.part-index l.fn.relation.parts)) ≡ true → is_hidden l.flags cell ≡ true → Meet l.lower.items l.first cell;
}
