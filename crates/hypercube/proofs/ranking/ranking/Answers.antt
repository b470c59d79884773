use Rattle.std.proofs.Common.{List, subst, sym, rules}
use Rattle.std.proofs.lemmas.List.Sorted.{IsNonDecreasingBy-from_sort_by_key}
use Rattle.std.specs.List.Sorted.{IsPermutation}
use Rattle.hypercube.specs.declared.ranking.PricedEdge.{PricedEdge}
use Rattle.hypercube.specs.Ranks.{IsRanking}
use Rattle.hypercube.proofs.ranking.ranking.Goals as goal

pub returns : goal.returns
returns g c =
    let sorted : List PricedEdge = c.sort_unstable_by_key.new.self.items in
    let rising = IsNonDecreasingBy-from_sort_by_key (λ one. one.price) _ c.sort_unstable_by_key.ensures.sorted (λ a r q k. search rules) in
    subst (λ (l : List PricedEdge). IsRanking c.args.search.now c.args.k c.args.edges.now l) (sym c.new.ensures) (record {
      same = subst (λ (l : List PricedEdge). IsPermutation l sorted) c.in_ok-priced.ensures c.sort_unstable_by_key.ensures.permutation;
      rising = rising;
    })
