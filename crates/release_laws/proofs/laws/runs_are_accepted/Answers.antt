use Rattle.release_laws.proofs.RunsAccepted.{puts-are-accepted, runs-are-accepted}
use Rattle.release_laws.proofs.laws.runs_are_accepted.Goals as goal

pub returns-clause-inputs : goal.returns-clause-inputs
returns-clause-inputs c = runs-are-accepted c.names_apart.ensures.put c.written_is_accepted.ensures.written c.guarded_is_accepted.ensures.written c.rounded_is_accepted.ensures.written

pub returns-clause-files : goal.returns-clause-files
returns-clause-files c =
    puts-are-accepted c.names_apart.ensures.read c.names_apart.ensures.named (runs-are-accepted c.names_apart.ensures.put c.written_is_accepted.ensures.written c.guarded_is_accepted.ensures.written c.rounded_is_accepted.ensures.written)
