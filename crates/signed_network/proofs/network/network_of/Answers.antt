use Rattle.std.proofs.Common.{◌∙◌, ◌+◌, ap, arith, List, length}
use Rattle.sdc_base.specs.declared.relation.Relation.{Relation}
use Rattle.signed_network.proofs.Arcing.{arcs_within}
use Rattle.signed_network.proofs.network.network_of.Goals as goal

pub touching_of-requires : goal.touching_of-requires
touching_of-requires c =
    rw (c.as_slice-2.ensures.value, c.as_slice.ensures) (record {
      fewer_than_2_32 = c.in_ok-arcs.ensures.fewer_than_2_32;
      within = arcs_within c.args.system.now.relations c.args.signs.now c.args.system.now.cells c.in_ok-arcs.arcs.items c.in_ok-arcs.ensures.arcs;
    })

pub returns-clause-points : goal.returns-clause-points
returns-clause-points c = c.in_ok-touching.ensures.each ∙ ap (λ (relations : List Relation). length relations + 1) c.as_slice.ensures

pub returns-clause-network : goal.returns-clause-network
returns-clause-network c =
    let touched = rw c.as_slice-2.ensures.value at c.in_ok-touching.ensures.touched in
    let many = c.in_ok-touching.ensures.each ∙ ap (λ (relations : List Relation). length relations + 1) c.as_slice.ensures in
    let within = arcs_within c.args.system.now.relations c.args.signs.now c.args.system.now.cells c.in_ok-arcs.arcs.items c.in_ok-arcs.ensures.arcs in
    record {
      fewer_than_2_32 = c.in_ok-arcs.ensures.fewer_than_2_32;
      within = λ cell below. (omega (arith, many, (within cell below).0), omega (arith, many, (within cell below).1));
      touched = touched;
    }
