use Rattle.std.proofs.Common.{◌≡◌, take, fold}
use Rattle.sdc_base.specs.Largest.{with_contribution}
use Rattle.sdc_base.proofs.tops.Tops.join.Given as goal

abbrev pub invariant-units : goal.invariant-units
invariant-units l = record {
  keep : l.self.keep ≡ l.fn.self.keep;
  scale : l.self.scale ≡ l.fn.self.scale;
  list : l.self.list ≡ take l.fn.self.keep (fold with_contribution l.fn.self.list (take l.unit-index l.other.list));
}
