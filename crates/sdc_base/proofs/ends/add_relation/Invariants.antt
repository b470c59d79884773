use Rattle.std.proofs.Common.{◌≡◌, length, take}
use Rattle.sdc_base.specs.Ends.{IsCounting}
use Rattle.sdc_base.proofs.EndLemmas.{IsMet, own}
use Rattle.sdc_base.proofs.ends.add_relation.Given as goal

abbrev pub invariant-parts : goal.invariant-parts
invariant-parts l = record {
  each : length l.ends.items ≡ l.system.cells;
  counting : IsCounting l.system.relations l.number (own l.met l.relation.total (take l.part-index l.part-items)) l.ends.items;
  is_met : IsMet l.met l.relation.total (take l.part-index l.part-items);
}
