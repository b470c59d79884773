use Rattle.std.proofs.Common.{◌≡◌, ◌<◌, ◌≤◌, ℕ, List, true, length, slice_index, ap, arith, sym, subst}
use Rattle.sdc_base.specs.HiddenSets.{is_hidden}
use Rattle.sdc_base.specs.Components.{mentions}
use Rattle.sdc_base.specs.Forests.{Meet}
use Rattle.sdc_base.proofs.Connecting.{all-joined, part-joined, part-named, total-joined}
use Rattle.sdc_base.proofs.connected.join_relation.Goals as goal

pub parts-init : goal.parts-init
parts-init c = record {
  forest = c.join_hidden.ensures.forest;
  kept = c.join_hidden.ensures.kept;
  joined = total-joined c.args.flags.now c.join_hidden.new.lower.items c.in-Some.first c.args.relation.now.total c.join_hidden.ensures.joined;
}

pub join_hidden-requires-in-parts-clause-cell_named : goal.join_hidden-requires-in-parts-clause-cell_named
join_hidden-requires-in-parts-clause-cell_named c =
    let r = c.args.relation.now in
    let k = c.parts.part-index in
    let inside : k < length r.parts = subst (λ (list : List ℕ). k < length list) c.as_slice-part-items.ensures c.parts-test.true in
    subst (λ (list : List ℕ). mentions r (slice_index list k) ≡ true) (sym c.as_slice-part-items.ensures) (part-named r k inside)

pub parts-preserved : goal.parts-preserved
parts-preserved c =
    let r = c.args.relation.now in
    let k = c.parts.part-index in
    let inside : k < length r.parts = subst (λ (list : List ℕ). k < length list) c.as_slice-part-items.ensures c.parts-test.true in
    let kept = c.join_hidden-in-parts.ensures.kept in
    record {
      forest = c.join_hidden-in-parts.ensures.forest;
      kept = λ one other meet. kept one other (c.parts.invariant.kept one other meet);
      joined = part-joined c.args.flags.now c.parts.lower.items c.join_hidden-in-parts.new.lower.items c.in-Some.first r.total r.parts k inside kept c.parts.invariant.joined
          (subst (λ (list : List ℕ). is_hidden c.args.flags.now (slice_index list k) ≡ true → Meet c.join_hidden-in-parts.new.lower.items c.in-Some.first (slice_index list k)) c.as_slice-part-items.ensures c.join_hidden-in-parts.ensures.joined);
    }

pub returns-clause-joined : goal.returns-clause-joined
returns-clause-joined c =
    let r = c.args.relation.now in
    let past : length r.parts ≤ c.parts.part-index = let long : length c.as_slice-part-items.result.now ≡ length r.parts = ap (λ (list : List ℕ). length list) c.as_slice-part-items.ensures in omega (arith, long, c.parts-test.false) in
    all-joined c.args.flags.now c.parts.lower.items c.in-Some.first r c.parts.part-index past c.parts.invariant.forest.falls c.parts.invariant.joined
