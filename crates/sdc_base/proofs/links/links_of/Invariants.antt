use Rattle.std.proofs.Common.{◌≡◌, ◌<◌, ℕ, Bool, List, length}
use Rattle.sdc_base.specs.Ends.{ends_at}
use Rattle.sdc_base.specs.Links.{AreLinks, Follow, Oppose}
use Rattle.sdc_base.specs.Signs.{AreSigns}
use Rattle.sdc_base.proofs.links.links_of.Given as goal

abbrev pub invariant-cells : goal.invariant-cells
invariant-cells l = record {
  links : AreLinks l.links.items;
  each : length l.links.items ≡ length l.system.relations;
  on : (signs : List Bool) → AreSigns l.system.relations signs → Follow signs l.links.items;
  opposed : (signs : List Bool) → Follow signs l.links.items → (cell : ℕ) → cell < l.at-index → Oppose signs (ends_at l.ends cell);
}
