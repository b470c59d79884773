use Rattle.std.proofs.Common.{◌∷◌, [], true, arith, sym, length-append}
use Rattle.sdc_base.specs.declared.links.Link.{Link}
use Rattle.sdc_base.proofs.LinkLemmas.{own-follow, own-links, own-none, own-push}
use Rattle.sdc_base.proofs.links.each_itself.Goals as goal

pub relations-init : goal.relations-init
relations-init c = rw c.new-links.ensures.items (record { each = omega arith; own = own-none })

pub relations-preserved : goal.relations-preserved
relations-preserved c =
    let links = c.relations.links.items in
    let one : Link = record { to = c.relations.to; same = true } in
    rw c.in_ok-push.ensures.items (record {
      each = omega (arith, length-append links (one ∷ []), c.relations.invariant.each);
      own = own-push links c.relations.to (sym c.relations.invariant.each) c.relations.invariant.own;
    })

pub returns-clause-links : goal.returns-clause-links
returns-clause-links c = own-links c.relations.links.items c.relations.invariant.own

pub returns-clause-any : goal.returns-clause-any
returns-clause-any c = own-follow c.relations.links.items c.relations.invariant.own
