use Rattle.std.proofs.Common.{◌≡◌, length}
use Rattle.job_lang.specs.Pieces.{pieces}
use Rattle.job_lang.specs.RuleClauses.{clauses_in}
use Rattle.job_lang.proofs.Fronts.{with_front}
use Rattle.job_lang.proofs.rules.clauses_in.Given as goal

abbrev pub invariant-pieces : goal.invariant-pieces
invariant-pieces l = with_front l.clauses (clauses_in l.pieces) ≡ clauses_in (pieces l.text)

abbrev pub decreases-pieces : goal.decreases-pieces
decreases-pieces l = length l.pieces
