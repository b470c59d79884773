use Rattle.std.proofs.Common.{sym, ◌∙◌}
use Rattle.job_lang.proofs.RuleLists.{clauses_go_on, clauses_stop, clauses_end}
use Rattle.job_lang.proofs.rules.clauses_in.Goals as goal

pub returns-in-Err : goal.returns-in-Err
returns-in-Err c = rw (← c.pieces.invariant) (clauses_stop c.pieces.clauses _ _ _ _ c.in-Some.ensures.piece c.in-Err.ensures)

pub pieces-preserved : goal.pieces-preserved
pieces-preserved c =
    rw c.in_ok-push.ensures.ok (clauses_go_on c.pieces.clauses _ _ _ _ c.in-Some.ensures.piece c.in-Ok.ensures ∙ c.pieces.invariant)

pub returns : goal.returns
returns c = sym c.pieces.invariant ∙ clauses_end c.pieces.clauses _ c.in_default.ensures.end
