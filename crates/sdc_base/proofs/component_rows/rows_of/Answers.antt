use Rattle.std.proofs.Common.{◌≡◌, ℕ, List, [], length, replicate, slice_get, Option, Some, refl, ap, sym, ◌∙◌, subst}
use Rattle.std.proofs.lemmas.Option.{slice_get_read}
use Rattle.sdc_base.specs.declared.relation.Relation.{Relation}
use Rattle.sdc_base.specs.Components.{AreComponents}
use Rattle.sdc_base.specs.ComponentRows.{put_in}
use Rattle.sdc_base.proofs.PuttingRows.{lists-none, many-lists, put-within, rows-next, stands_at}
use Rattle.sdc_base.proofs.component_rows.rows_of.Goals as goal

pub relations-init : goal.relations-init
relations-init c =
    let sizes = c.args.components.now.sizes in
    c.in_ok-lists.ensures ∙ ap (λ (list : List ℕ). replicate (length list) []) c.as_slice.ensures ∙ lists-none (stands_at c.args.system.now.relations c.as_slice-of.result.now) 0 (length sizes)

pub put-requires : goal.put-requires
put-requires c =
    let relations = c.args.system.now.relations in
    let grouping = c.args.components.now in
    let of = c.as_slice-of.result.now in
    let are : AreComponents relations c.requires.components.0 of grouping.sizes = subst (λ (list : List (Option ℕ)). AreComponents relations c.requires.components.0 list grouping.sizes) (sym c.as_slice-of.ensures) c.requires.components.2 in
    record {
      within = put-within relations c.requires.components.0 of grouping.sizes are c.index-relations-number.result c.component_of-met.result c.component_of-met.ensures.stands_in (length c.relations.lists.items)
          (many-lists (stands_at relations of) c.relations.number (length grouping.sizes) c.relations.lists.items c.relations.invariant);
    }

pub relations-preserved : goal.relations-preserved
relations-preserved c =
    let relations = c.args.system.now.relations in
    let grouping = c.args.components.now in
    let of = c.as_slice-of.result.now in
    let are : AreComponents relations c.requires.components.0 of grouping.sizes = subst (λ (list : List (Option ℕ)). AreComponents relations c.requires.components.0 list grouping.sizes) (sym c.as_slice-of.ensures) c.requires.components.2 in
    let k = c.relations.number in
    let items = c.as_slice-relations.result.now in
    let at : slice_get relations k ≡ Some c.index-relations-number.result =
    ap (λ (list : List Relation). slice_get list k) (sym c.as_slice-relations.ensures) ∙ slice_get_read items (length items) k c.index-relations-number.result refl c.relations-test.true c.index-relations-number.is
    in
    c.in_ok-put.ensures ∙ ap (λ (lists : List (List ℕ)). put_in c.component_of-met.result k lists) c.relations.invariant
    ∙ rows-next relations c.requires.components.0 of grouping.sizes are k c.index-relations-number.result at c.component_of-met.result c.component_of-met.ensures.stands_in c.component_of-met.ensures.none
