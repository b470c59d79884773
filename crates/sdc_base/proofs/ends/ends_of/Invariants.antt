use Rattle.std.proofs.Common.{◌≡◌, pos, length}
use Rattle.sdc_base.specs.Ends.{IsCounting}
use Rattle.sdc_base.proofs.ends.ends_of.Given as goal

abbrev pub invariant-relations : goal.invariant-relations
invariant-relations l = record {
  each : length l.ends.items ≡ l.system.cells;
  counting : IsCounting l.system.relations l.number (λ _. pos 0) l.ends.items;
}
