use Rattle.std.proofs.Common.{◌≡◌, length}
use Rattle.sdc_base.proofs.LinkLemmas.{FollowSoFar}
use Rattle.sdc_base.proofs.relation_signs.signs_along.Given as goal

abbrev pub invariant-links : goal.invariant-links
invariant-links l = record {
  each : length l.signs.items ≡ l.link-index;
  follow : FollowSoFar l.signs.items l.links;
}
