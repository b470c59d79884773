use Rattle.std.proofs.Common.{◌≡◌, pos, List, Some, length, slice_get, refl, ap, arith, subst, sym, ◌∙◌}
use Rattle.std.proofs.lemmas.Option.{slice_get_read}
use Rattle.sdc_base.specs.Ends.{IsCounting}
use Rattle.sdc_base.specs.declared.relation.Relation.{Relation}
use Rattle.sdc_base.proofs.EndLemmas.{counting-all, counting-next}
use Rattle.sdc_base.proofs.ends.ends_of.Goals as goal

pub relations-preserved : goal.relations-preserved
relations-preserved c =
    let s = c.args.system.now in
    let k = c.relations.number in
    let items = c.as_slice-relation-items.result.now in
    let at : slice_get s.relations k ≡ Some c.relation-item.result =
    ap (λ (list : List Relation). slice_get list k) (sym c.as_slice-relation-items.ensures) ∙ slice_get_read items (length items) k c.relation-item.result refl c.relations-test.true c.relation-item.is
    in
    record {
      each = c.if-not-add_relation.ensures.each;
      counting = counting-next s.relations k c.relation-item.result c.add_relation.new.ends.items at (c.if-not-add_relation.ensures.counting refl);
    }

pub returns-clause-ends : goal.returns-clause-ends
returns-clause-ends c =
    let s = c.args.system.now in
    let long : length c.as_slice-relation-items.result.now ≡ length s.relations = ap (λ (list : List Relation). length list) c.as_slice-relation-items.ensures in
    let last : c.relations.number ≡ length s.relations = omega (arith, long, c.relations-test.false, c.relations.auto.number-end) in
    counting-all s.relations c.relations.ends.items (subst (λ n. IsCounting s.relations n (λ _. pos 0) c.relations.ends.items) last c.relations.invariant.counting)
