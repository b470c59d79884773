use Rattle.std.proofs.Common.{◌≡◌, ℕ, List, Some, length, slice_get, refl, ap, arith, subst, sym, ◌∙◌}
use Rattle.std.proofs.lemmas.Option.{slice_get_read, slice_get_within}
use Rattle.sdc_base.specs.Forests.{IsForest}
use Rattle.sdc_base.specs.declared.relation.Relation.{Relation}
use Rattle.sdc_base.proofs.Connecting.{forest-alone, joins-next}
use Rattle.sdc_base.proofs.connected.forest_of.Goals as goal

pub relations-init : goal.relations-init
relations-init c =
    let s = c.args.system.now in
    record {
      forest = subst (λ (lower : List ℕ). IsForest s.relations c.args.flags.now s.cells lower) (sym c.in_ok-lower.ensures) (forest-alone s.relations c.args.flags.now s.cells);
      joined = λ k one below. absurd (omega (arith, below));
    }

pub join_relation-requires-clause-among : goal.join_relation-requires-clause-among
join_relation-requires-clause-among c =
    let k = c.relations.relation-index in
    let items = c.as_slice-relation-items.result.now in
    (k, ap (λ (list : List Relation). slice_get list k) (sym c.as_slice-relation-items.ensures) ∙ slice_get_read items (length items) k c.relation-item.result refl c.relations-test.true c.relation-item.is)

pub relations-preserved : goal.relations-preserved
relations-preserved c =
    let s = c.args.system.now in
    let k = c.relations.relation-index in
    let items = c.as_slice-relation-items.result.now in
    let at : slice_get s.relations k ≡ Some c.relation-item.result =
    ap (λ (list : List Relation). slice_get list k) (sym c.as_slice-relation-items.ensures) ∙ slice_get_read items (length items) k c.relation-item.result refl c.relations-test.true c.relation-item.is
    in
    record {
      forest = c.join_relation.ensures.forest;
      joined = joins-next s.relations c.args.flags.now c.relations.lower.items c.join_relation.new.lower.items k c.relation-item.result at c.join_relation.ensures.kept c.relations.invariant.joined c.join_relation.ensures.joined;
    }

pub returns-clause-joined : goal.returns-clause-joined
returns-clause-joined c = λ k one at.
    let long : length c.as_slice-relation-items.result.now ≡ length c.args.system.now.relations = ap (λ (list : List Relation). length list) c.as_slice-relation-items.ensures in
    c.relations.invariant.joined k one (omega (arith, long, slice_get_within c.args.system.now.relations k one at, c.relations-test.false)) at
