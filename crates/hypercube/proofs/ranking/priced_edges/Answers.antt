use Rattle.std.proofs.Common.{◌+◌, ◌++◌, false, List, drop, slice_index_or, ap, sym, ◌∙◌}
use Rattle.std.proofs.lemmas.List.{drop_more}
use Rattle.sdc_base.specs.declared.cube.Edge.{Edge}
use Rattle.hypercube.specs.declared.ranking.PricedEdge.{PricedEdge}
use Rattle.hypercube.specs.Ranks.{priced_of}
use Rattle.hypercube.proofs.Rankings.{priced-next}
use Rattle.hypercube.proofs.ranking.priced_edges.Goals as goal

pub edges-preserved : goal.edges-preserved
edges-preserved g c =
    let setting = c.args.search.now in
    let items : List Edge = c.args.edges.now in
    let i = c.edges.edge-index in
    let d : Edge = record { code = 0; other = 0; equal = false } in
    let left : List Edge = drop (i + 1) items in
    ap (λ (done : List PricedEdge). done ++ priced_of setting c.args.k left) c.in_ok-add_priced.ensures
    ∙ priced-next setting c.args.k (slice_index_or items i d) left c.edges.priced.items
    ∙ ap (λ (next : List Edge). c.edges.priced.items ++ priced_of setting c.args.k next) (sym (drop_more items i d c.edges-test.true))
    ∙ c.edges.invariant
