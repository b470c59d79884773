use Rattle.std.proofs.Common.{◌≡◌, length}
use Rattle.sdc_base.proofs.LinkLemmas.{AreOwn}
use Rattle.sdc_base.proofs.links.each_itself.Given as goal

abbrev pub invariant-relations : goal.invariant-relations
invariant-relations l = record {
  each : length l.links.items ≡ l.to;
  own : AreOwn l.links.items;
}
