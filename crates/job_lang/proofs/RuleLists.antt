-- Rules that are read one after the other.
use Rattle.std.proofs.Common.{◌≡◌, ℕ, List, [], ◌∷◌, ◌++◌, Ok, Err, refl, sym}
use Rattle.job_lang.specs.declared.faults.JobWhy.{JobWhy}
use Rattle.job_lang.specs.declared.rule_clauses.RuleClause.{RuleClause}
use Rattle.job_lang.specs.RuleClauses.{clause_in, clauses_in}
use Rattle.job_lang.proofs.Fronts.{with_front, regroup, none_left}

pub clauses_go_on : (front : List RuleClause) (pieces after : List (List ℕ)) (piece : List ℕ) (clause : RuleClause) → pieces ≡ piece ∷ after → clause_in piece ≡ Ok clause
    → with_front (front ++ clause ∷ []) (clauses_in after) ≡ with_front front (clauses_in pieces)
unfolding clauses_in
clauses_go_on front pieces after piece clause is read = rw (is, read) (sym (regroup front clause (clauses_in after)))

pub clauses_stop : (front : List RuleClause) (pieces after : List (List ℕ)) (piece : List ℕ) (why : JobWhy) → pieces ≡ piece ∷ after → clause_in piece ≡ Err why
    → with_front front (clauses_in pieces) ≡ Err why
unfolding clauses_in
clauses_stop front pieces after piece why is read = rw (is, read) refl

pub clauses_end : (front : List RuleClause) (pieces : List (List ℕ)) → pieces ≡ [] → with_front front (clauses_in pieces) ≡ Ok front
unfolding clauses_in
clauses_end front pieces is = rw is (none_left front)
