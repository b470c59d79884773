use Rattle.std.proofs.Common.{[], sym}
use Rattle.hypercube.proofs.Leaving.{read-past}
use Rattle.hypercube.proofs.ranking.list_at.Goals as goal

pub returns-in-None : goal.returns-in-None
returns-in-None g c = sym (read-past c.args.lists.now c.args.k [] c.in-None.ensures.lookup.3)
