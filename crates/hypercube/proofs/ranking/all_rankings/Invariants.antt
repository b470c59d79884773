use Rattle.std.proofs.Common.{take}
use Rattle.hypercube.specs.Ranks.{AreRankings}
use Rattle.hypercube.proofs.ranking.all_rankings.Given as goal

abbrev pub invariant-variables : goal.invariant-variables
invariant-variables g l = AreRankings l.search 0 (take l.k l.lists) l.ranked.items
