use Rattle.std.proofs.Common.{◌≡◌, ◌<◌, ℕ, Bool, List, Some, length, slice_get}
use Rattle.sdc_base.specs.Links.{AreLinks, Follow, sign_by_link}
use Rattle.sdc_base.specs.Signs.{sign_of}
use Rattle.sdc_base.specs.declared.links.Link.{Link}
use Rattle.sdc_base.proofs.links.last_link.Given as goal

abbrev pub invariant-steps : goal.invariant-steps
invariant-steps l = record {
  links : AreLinks l.links.items;
  each : length l.links.items ≡ length l.fn.links.items;
  on : (signs : List Bool) → Follow signs l.fn.links.items → Follow signs l.links.items;
  back : (signs : List Bool) → Follow signs l.links.items → Follow signs l.fn.links.items;
  tied : (signs : List Bool) → Follow signs l.links.items → sign_of signs l.number ≡ sign_by_link l.same (sign_of signs l.to);
  lasts : (root : ℕ) (link : Link) → slice_get l.fn.links.items root ≡ Some link → link.to ≡ root → slice_get l.links.items root ≡ Some link;
  within : l.to < length l.links.items;
}

abbrev pub decreases-steps : goal.decreases-steps
decreases-steps l = l.to
