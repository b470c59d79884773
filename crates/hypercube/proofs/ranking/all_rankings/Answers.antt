use Rattle.std.proofs.Common.{◌≡◌, ◌+◌, ◌<◌, ◌++◌, ◌∷◌, [], ℕ, List, length, take, slice_index_or, arith, subst, sym}
use Rattle.std.proofs.lemmas.List.{length-take-le, take_more}
use Rattle.sdc_base.specs.declared.cube.Edge.{Edge}
use Rattle.hypercube.specs.declared.ranking.PricedEdge.{PricedEdge}
use Rattle.hypercube.specs.Ranks.{AreRankings, IsRanking}
use Rattle.hypercube.proofs.Rankings.{rankings-more}
use Rattle.hypercube.proofs.ranking.all_rankings.Goals as goal

pub variables-preserved : goal.variables-preserved
variables-preserved g c =
    let setting = c.args.search.now in
    let lists : List (List Edge) = c.args.lists.now in
    let k = c.variables.k in
    let done : List (List PricedEdge) = c.variables.ranked.items in
    let list : List PricedEdge = c.in_ok-list.list in
    let inside : k < length lists = c.variables-test.true in
    let long = length-take-le k lists (omega (arith, inside)) in
    let here : 0 + length (take k lists) ≡ k = omega (arith, long) in
    let is : IsRanking setting k (slice_index_or lists k []) list = subst (λ (edges : List Edge). IsRanking setting k edges list) c.list_at.ensures c.in_ok-list.ensures in
    let more =
    rankings-more setting 0 (take k lists) done (slice_index_or lists k []) list c.variables.invariant (subst (λ (n : ℕ). IsRanking setting n (slice_index_or lists k []) list) (sym here) is)
    in
    subst (λ (l : List (List PricedEdge)). AreRankings setting 0 (take (k + 1) lists) l) (sym c.in_ok-push.ensures.items)
    (subst (λ (l : List (List Edge)). AreRankings setting 0 l (done ++ list ∷ [])) (sym (take_more lists k [] inside)) more)
