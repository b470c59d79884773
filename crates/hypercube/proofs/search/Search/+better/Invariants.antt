use Rattle.std.proofs.Common.{◌≡◌, ◌+◌, ◌-◌, drop, length}
use Rattle.hypercube.specs.Branches.{best_beyond}
use Rattle.hypercube.specs.Ranks.{edge_lists, edges_in}
use Rattle.hypercube.proofs.Searches.{best_among}
use Rattle.hypercube.proofs.search.Search.+better.Given as goal

abbrev pub decreases-better : goal.decreases-better
decreases-better g l = length l.lists.now - length l.chosen.now

abbrev pub invariant-edges : goal.invariant-edges
invariant-edges g l =
    best_among l.self l.found l.chosen (drop l.one-index (edges_in l.next)) (drop (length l.chosen + 1) (edge_lists l.lists))
    ≡ best_beyond l.self l.fn.best l.chosen (drop (length l.chosen) (edge_lists l.lists))
