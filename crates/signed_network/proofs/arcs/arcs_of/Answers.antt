use Rattle.std.proofs.Common.{◌≡◌, ◌∙◌, ◌∷◌, [], List, length, length-append, arith, ap, subst, sym}
use Rattle.sdc_base.specs.declared.ends.Ends.{Ends}
use Rattle.sdc_base.specs.declared.relation.Relation.{Relation}
use Rattle.sdc_base.specs.Ends.{AreEnds, ends_at}
use Rattle.signed_network.specs.declared.arcs.Arc.{Arc}
use Rattle.signed_network.specs.Arcs.{IsArcOf, arc_of}
use Rattle.signed_network.proofs.Arcing.{ends_arc, one_more_arc, all_arcs}
use Rattle.signed_network.proofs.arcs.arcs_of.Goals as goal

pub cells-preserved : goal.cells-preserved
cells-preserved c =
    let relations = c.args.system.now.relations in
    let are : AreEnds relations c.in-Some.ends.items = rw c.in-Some.is at c.in_ok-ends.ensures.ends in
    let here : c.arc_of.result ≡ arc_of c.args.signs.now (length relations) (ends_at c.in-Some.ends.items c.cells.cell) =
    c.arc_of.ensures ∙ ap (λ (e : Ends). arc_of c.args.signs.now (length c.as_slice.result.now) e) (c.ends_at-at.ensures ∙ ap (λ (es : List Ends). ends_at es c.cells.cell) c.as_slice-in-cells.ensures.value)
    ∙ ap (λ (rs : List Relation). arc_of c.args.signs.now (length rs) (ends_at c.in-Some.ends.items c.cells.cell)) c.as_slice.ensures in
    let arc : IsArcOf relations c.args.signs.now c.cells.cell c.arc_of.result = subst (IsArcOf relations c.args.signs.now c.cells.cell) (sym here) (ends_arc relations c.args.signs.now c.in-Some.ends.items c.cells.cell c.requires.signs are) in
    record {
      each = ap (λ (list : List Arc). length list) c.in_ok-push.ensures.items ∙ length-append c.cells.arcs.items (c.arc_of.result ∷ []) ∙ omega (arith, c.cells.invariant.each);
      arced = one_more_arc relations c.args.signs.now c.cells.arcs.items c.push.new.self.items c.arc_of.result c.cells.cell c.in_ok-push.ensures.items c.cells.invariant.each arc c.cells.invariant.arced;
    }

pub returns-clause-arcs : goal.returns-clause-arcs
returns-clause-arcs c = all_arcs c.args.system.now.relations c.args.signs.now c.cells.arcs.items c.cells.cell c.args.system.now.cells c.cells.invariant.each (omega (arith, c.cells-test.false, c.cells.auto.cell-end)) c.cells.invariant.arced
